-- The product is over the ring.
use Rattle.tcl_poly.specs.Polynomial.{IsOver}
use Rattle.tcl_bench.proofs.reducing.term.Given as goal

abbrev pub invariant-loop-variable : goal.invariant-loop-variable
invariant-loop-variable g l = IsOver (g.R.Ring.modulus_of l.ring) (g.R.Ring.amount l.ring) l.product
