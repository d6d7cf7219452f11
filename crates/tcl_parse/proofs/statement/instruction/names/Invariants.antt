use Rattle.tcl_parse.proofs.StatementParts.{NamesGo}
use Rattle.tcl_parse.proofs.statement.instruction.names.Given as goal

abbrev pub invariant-loop-left : goal.invariant-loop-left
invariant-loop-left l = NamesGo l.fn.count l.fn.tokens l.names l.left l.rest

abbrev pub decreases-loop-left : goal.decreases-loop-left
decreases-loop-left l = l.left
