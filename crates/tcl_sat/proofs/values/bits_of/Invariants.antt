use Rattle.tcl_trail.specs.Assignment.{lits_of}
use Rattle.tcl_sat.specs.State.{AreRead}
use Rattle.tcl_sat.proofs.values.bits_of.Given as goal

abbrev pub invariant-loop-variable : goal.invariant-loop-variable
invariant-loop-variable l = AreRead (lits_of l.trail.entries) l.variable l.bits
