-- There are the equations of the definitions alone.
use Rattle.tests_member.specs.Begun.{AreDefined}
use Rattle.tests_member.proofs.programs.define_all.Given as goal

abbrev pub invariant-loop-row : goal.invariant-loop-row
invariant-loop-row g l = AreDefined (g.R.Ring.modulus_of l.ring) (g.R.Ring.amount l.ring) l.defs l.list
