use Rattle.std.proofs.Common.{◌-◌, arith}
use Rattle.tcl_parse.proofs.StatementParts.{names_go_on, names_end}
use Rattle.tcl_parse.proofs.statement.instruction.names.Goals as goal

pub loop-left-preserved : goal.loop-left-preserved
loop-left-preserved c =
    rw c.in_ok-push.ensures.pushed
    (names_go_on c.in-Some.name (c.loop-left.left - 1) c.in-Some.behind.now c.loop-left.invariant (omega arith) c.in-Some.ensures)

pub returns : goal.returns
returns c = record { exact = names_end c.loop-left.invariant (omega arith) }
