-- The definitions are over the ring, and one at this place or later comes after them all.
use Rattle.std.proofs.Common.{◌≤◌, [], ◌∷◌, ◌++◌}
use Rattle.tcl_ring.specs.Reduction.{reduced_by}
use Rattle.tcl_reduce.specs.Answer.{definitions_of}
use Rattle.tcl_reduce.specs.Definitions.{Defined, AreRising}
use Rattle.tcl_reduce.specs.Remainder.{AreDefinitions}
use Rattle.tcl_bench.proofs.reducing.defined_variables.Given as goal

abbrev pub invariant-loop-place : goal.invariant-loop-place
invariant-loop-place g l =
    AreDefinitions (reduced_by (g.R.Ring.modulus_of l.ring)) (definitions_of (g.R.Ring.amount l.ring) l.defs)
    × ((x : Defined _) → l.place ≤ x.0 → AreRising (l.defs ++ x ∷ []))
