use Rattle.std.proofs.Common.{◌-◌, arith}
use Rattle.tcl_parse.proofs.StatementParts.{operands_go_on, operands_end}
use Rattle.tcl_parse.proofs.statement.instruction.operands.Goals as goal

pub loop-left-preserved : goal.loop-left-preserved
loop-left-preserved c =
    rw c.in_ok-push.ensures.pushed
    (operands_go_on c.in-Some.next.tree (c.loop-left.left - 1) c.in-Some.next.rest.now c.loop-left.invariant (omega arith)
    c.in-Some.ensures.exact)

pub returns : goal.returns
returns c = record { exact = operands_end c.loop-left.invariant (omega arith) }
