-- The summands that were passed are 0 in the ring.
use Rattle.std.proofs.Common.{◌≡◌, true, drop}
use Rattle.tcl_goals.specs.Remainder as plain
use Rattle.tcl_ring.specs.Reduction.{reduced_by}
use Rattle.tcl_poly.specs.Polynomial as p
use Rattle.tcl_remainder.specs.Terms as t
use Rattle.tcl_remainder.proofs.polynomial.degree.Given as goal

abbrev pub invariant-loop-summand : goal.invariant-loop-summand
invariant-loop-summand g l =
    let reduced = reduced_by (g.R.Ring.modulus_of l.ring) in
    let left = drop l.summand-index l.summands in
    (plain.is_remainder left ≡ true) × (p.degree_of (t.polynomial_of reduced left) ≡ p.degree_of (t.polynomial_of reduced l.remainder))
