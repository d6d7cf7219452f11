-- The sum is over the ring.
use Rattle.tcl_poly.specs.Polynomial.{IsOver}
use Rattle.tests_member.proofs.polynomials.polynomial.Given as goal

abbrev pub invariant-loop-k : goal.invariant-loop-k
invariant-loop-k g l = IsOver (g.R.Ring.modulus_of l.ring) (g.R.Ring.amount l.ring) l.sum
