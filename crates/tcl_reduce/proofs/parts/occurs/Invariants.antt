-- The unknown does not occur in the terms that were passed.
use Rattle.std.proofs.Common.{◌≡◌, drop}
use Rattle.tcl_reduce.specs.Parts as s
use Rattle.tcl_reduce.proofs.parts.occurs.Given as goal

abbrev pub invariant-loop-term : goal.invariant-loop-term
invariant-loop-term g l = s.top l.key (drop l.term-index l.f) ≡ s.top l.key l.f
