-- The pieces of the goals so far.
use Rattle.std.proofs.Common.{◌≡◌, flat_map}
use Rattle.tcl_goals.specs.Numbers.{numbers_below}
use Rattle.tcl_goals.specs.Plans.{goal_pieces, number_from}
use Rattle.tcl_slice.proofs.plans.add_goals.Given as goal

abbrev pub invariant-loop-goal : goal.invariant-loop-goal
invariant-loop-goal l = l.plan ≡ number_from 0 (flat_map (goal_pieces l.ssa l.split) (numbers_below l.goal))
