-- The equations begin with those of the definitions.
use Rattle.tests_member.specs.Begun.{AreBegun}
use Rattle.tests_member.proofs.programs.push_all.Given as goal

abbrev pub invariant-loop-row : goal.invariant-loop-row
invariant-loop-row g l = AreBegun (g.R.Ring.modulus_of l.ring) (g.R.Ring.amount l.ring) l.defs l.list
