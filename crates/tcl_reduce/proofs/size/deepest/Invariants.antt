-- The greatest degree over the powers so far.
use Rattle.std.proofs.Common.{◌≡◌, min}
use Rattle.tcl_reduce.specs.Parts.{by_power}
use Rattle.tcl_reduce.specs.Substitution.{degree_by}
use Rattle.tcl_reduce.proofs.size.deepest.Given as goal

abbrev pub invariant-loop-k : goal.invariant-loop-k
invariant-loop-k g l = l.deepest ≡ min (degree_by l.d (by_power l.parts) l.k) 4294967295
