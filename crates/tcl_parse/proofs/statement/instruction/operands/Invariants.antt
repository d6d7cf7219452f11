use Rattle.tcl_parse.proofs.StatementParts.{OperandsGo}
use Rattle.tcl_parse.proofs.statement.instruction.operands.Given as goal

abbrev pub invariant-loop-left : goal.invariant-loop-left
invariant-loop-left l = OperandsGo l.fn.count l.fn.tokens l.atoms l.left l.rest

abbrev pub decreases-loop-left : goal.decreases-loop-left
decreases-loop-left l = l.left
