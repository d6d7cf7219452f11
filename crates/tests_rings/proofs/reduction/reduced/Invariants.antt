-- The definitions are over the ring.
use Rattle.tcl_ring.specs.Reduction.{reduced_by}
use Rattle.tcl_reduce.specs.Answer.{definitions_of}
use Rattle.tcl_reduce.specs.Remainder.{AreDefinitions}
use Rattle.tests_rings.proofs.reduction.reduced.Given as goal

abbrev pub invariant-loop-row : goal.invariant-loop-row
invariant-loop-row g l = AreDefinitions (reduced_by (g.R.Ring.modulus_of l.ring)) (definitions_of (g.R.Ring.amount l.ring) l.defs)
