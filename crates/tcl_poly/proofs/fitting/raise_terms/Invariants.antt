-- The power so far.
use Rattle.std.proofs.Common.{◌≡◌}
use Rattle.tcl_ring.specs.Reduction.{reduced_by}
use Rattle.tcl_poly.specs.Polynomial as p
use Rattle.tcl_poly.proofs.fitting.raise_terms.Given as goal

abbrev pub invariant-loop-step : goal.invariant-loop-step
invariant-loop-step g l =
    let value = g.R.Ring.amount l.ring in
    p.terms_of value l.power.items ≡ p.raised_by (reduced_by (g.R.Ring.modulus_of l.ring)) (p.terms_of value l.a) l.step
