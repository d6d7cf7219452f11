-- The goals that are left stand among the lines that are left.
use Rattle.std.proofs.Common.{◌≡◌, ◌+◌, drop}
use Rattle.tcl_goals.specs.Places.{goal_place}
use Rattle.tcl_goals.proofs.goals_of.goal_place.Given as goal

abbrev pub invariant-loop-k : goal.invariant-loop-k
invariant-loop-k l = l.k + goal_place (drop l.k l.lines) l.left ≡ goal_place l.lines l.goal
