-- The sum is over the ring.
use Rattle.tcl_poly.specs.Polynomial.{IsOver}
use Rattle.tests_member.proofs.polynomials.sum_of_terms.Given as goal

abbrev pub invariant-loop-term : goal.invariant-loop-term
invariant-loop-term g l = IsOver (g.R.Ring.modulus_of l.ring) (g.R.Ring.amount l.ring) l.sum
