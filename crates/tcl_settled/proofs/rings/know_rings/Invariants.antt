-- So of the goals before this one.
use Rattle.tcl_settled.specs.Rings.{AreOfRings}
use Rattle.tcl_settled.proofs.rings.know_rings.Given as goal

abbrev pub invariant-loop-goal : goal.invariant-loop-goal
invariant-loop-goal l = AreOfRings l.ssa l.goal
