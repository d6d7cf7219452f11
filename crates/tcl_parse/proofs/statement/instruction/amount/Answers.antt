use Rattle.tcl_parse.proofs.StatementParts.{an_amount, nothing_more}
use Rattle.tcl_parse.proofs.statement.instruction.amount.Goals as goal

pub returns-then-ends : goal.returns-then-ends
returns-then-ends c = record { exact = rw (c.if-expected.true, c.capped.ensures) (an_amount c.in_ok-n.ensures c.if-ends.ensures) }

pub returns-then-ends-2 : goal.returns-then-ends-2
returns-then-ends-2 c = record { exact = rw c.if-expected.false (nothing_more c.if-ends-2.ensures) }
