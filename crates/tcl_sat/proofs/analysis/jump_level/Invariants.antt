use Rattle.tcl_sat.specs.Analysis.{IsJump}
use Rattle.tcl_sat.proofs.analysis.jump_level.Given as goal

abbrev pub invariant-loop-lit : goal.invariant-loop-lit
invariant-loop-lit l = IsJump l.trail.entries l.lits l.point l.best
