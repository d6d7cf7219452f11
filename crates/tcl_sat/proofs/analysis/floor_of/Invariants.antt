use Rattle.std.proofs.Common.{◌≤◌, length}
use Rattle.tcl_sat.proofs.Floors.{AreGivenFrom}
use Rattle.tcl_sat.proofs.analysis.floor_of.Given as goal

abbrev pub invariant-loop-place : goal.invariant-loop-place
invariant-loop-place l = record { given : AreGivenFrom l.trail.entries l.place; within : l.place ≤ length l.trail.entries }

abbrev pub decreases-loop-place : goal.decreases-loop-place
decreases-loop-place l = l.place
