-- The equations are over the ring, the last one too.
use Rattle.tcl_poly.specs.Polynomial.{IsOver}
use Rattle.tests_member.specs.Begun.{AreBegun}
use Rattle.tests_member.proofs.searches.random_equations.Given as goal

abbrev pub invariant-loop-k : goal.invariant-loop-k
invariant-loop-k g l =
    AreBegun (g.R.Ring.modulus_of l.ring) (g.R.Ring.amount l.ring) l.defs l.list
    × IsOver (g.R.Ring.modulus_of l.ring) (g.R.Ring.amount l.ring) l.last
