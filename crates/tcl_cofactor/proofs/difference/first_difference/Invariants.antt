-- The terms before k are equal, so what is left decides.
use Rattle.std.proofs.Common.{◌≡◌, ◌≤◌, ◌-◌, length, drop}
use Rattle.tcl_poly.specs.Monomial.{Monomial}
use Rattle.tcl_poly.specs.Polynomial as p
use Rattle.tcl_cofactor.specs.Comparison.{IsGreatestDifference}
use Rattle.tcl_cofactor.proofs.difference.first_difference.Given as goal

abbrev pub invariant-loop-k : goal.invariant-loop-k
invariant-loop-k g l =
    let value = g.R.Ring.amount l.ring in
    (l.k ≤ length l.a)
    × (l.k ≤ length l.b)
    × (p.terms_of value (drop l.k l.a) ≡ p.terms_of value (drop l.k l.b) → p.terms_of value l.a ≡ p.terms_of value l.b)
    × ((m : Monomial) → IsGreatestDifference (p.terms_of value (drop l.k l.a)) (p.terms_of value (drop l.k l.b)) m → IsGreatestDifference (p.terms_of value l.a) (p.terms_of value l.b) m)

abbrev pub decreases-loop-k : goal.decreases-loop-k
decreases-loop-k g l = length l.a - l.k
