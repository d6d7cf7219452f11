-- The equations of the hypotheses before this one are added.
use Rattle.std.proofs.Common.{flat_map, take}
use Rattle.tcl_algebra.specs.Equations.{hyp_equations}
use Rattle.tcl_algebra.specs.Held.{IsAdded}
use Rattle.tcl_algebra.proofs.hypotheses.add_hyps.Given as goal

abbrev pub invariant-loop-k : goal.invariant-loop-k
invariant-loop-k g l =
    IsAdded (g.R.Ring.amount l.ring) l.fn.rows.list l.rows.list l.fn.rows.places l.rows.places (flat_map (hyp_equations (g.R.Ring.modulus_of l.ring) l.ssa) (take l.k l.hyps))
