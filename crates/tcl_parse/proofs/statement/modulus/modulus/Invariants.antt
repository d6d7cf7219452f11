use Rattle.std.proofs.Common.{length}
use Rattle.tcl_parse.proofs.StatementModulus.{PartsGo}
use Rattle.tcl_parse.proofs.statement.modulus.modulus.Given as goal

abbrev pub invariant-loop-minus : goal.invariant-loop-minus
invariant-loop-minus l = PartsGo l.fn.tokens l.parts l.rest

abbrev pub decreases-loop-minus : goal.decreases-loop-minus
decreases-loop-minus l = length l.rest
