-- The terms so far, followed by those of the summands that are left, are all, and none has too great a degree.
use Rattle.std.proofs.Common.{◌≡◌, ◌-◌, ◌^◌, ◌++◌, true, drop}
use Rattle.tcl_goals.specs.Remainder as plain
use Rattle.tcl_ring.specs.Reduction.{reduced_by}
use Rattle.tcl_poly.specs.Polynomial as p
use Rattle.tcl_poly.proofs.Degrees.{IsWithin}
use Rattle.tcl_remainder.specs.Terms as t
use Rattle.tcl_remainder.proofs.polynomial.polynomial_of.Given as goal

abbrev pub invariant-loop-summand : goal.invariant-loop-summand
invariant-loop-summand g l =
    let reduced = reduced_by (g.R.Ring.modulus_of l.ring) in
    let left = drop l.summand-index l.summands in
    (plain.is_remainder left ≡ true)
    × IsWithin (2 ^ 32 - 1) (t.polynomial_of reduced left)
    × (p.terms_of (g.R.Ring.amount l.ring) l.poly ++ t.polynomial_of reduced left ≡ t.polynomial_of reduced l.remainder)
