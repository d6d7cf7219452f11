use Rattle.std.proofs.Common.{◌≤◌, length}
use Rattle.tcl_sat.proofs.learning.release_above.Given as goal

abbrev pub invariant-loop-place : goal.invariant-loop-place
invariant-loop-place l = l.place ≤ length l.trail.entries

abbrev pub decreases-loop-place : goal.decreases-loop-place
decreases-loop-place l = l.place
