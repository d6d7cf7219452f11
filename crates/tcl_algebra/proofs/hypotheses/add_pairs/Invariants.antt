-- The equations of the pairs before this one are added.
use Rattle.std.proofs.Common.{map, take}
use Rattle.tcl_ring.specs.Reduction.{reduced_by}
use Rattle.tcl_algebra.specs.Equations.{equality_polynomial}
use Rattle.tcl_algebra.specs.Held.{IsAdded}
use Rattle.tcl_algebra.proofs.hypotheses.add_pairs.Given as goal

abbrev pub invariant-loop-k : goal.invariant-loop-k
invariant-loop-k g l =
    IsAdded (g.R.Ring.amount l.ring) l.fn.rows.list l.rows.list l.fn.rows.places l.rows.places (map (λ e. (l.place, equality_polynomial (reduced_by (g.R.Ring.modulus_of l.ring)) e)) (take l.k l.pairs))
