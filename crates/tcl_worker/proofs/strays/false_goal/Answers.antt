-- The goals before the place are its number.
use Rattle.std.proofs.Common.{sym, ◌∙◌}
use Rattle.tcl_worker.proofs.GoalNumbers.{false_goal_is}
use Rattle.tcl_worker.proofs.strays.false_goal.Goals as goal

pub returns-then-is_false_goal : goal.returns-then-is_false_goal
returns-then-is_false_goal c =
    false_goal_is c.args.lines.now c.args.stray c.goals_before.result
    (sym c.is_false_goal.ensures ∙ c.if-is_false_goal.true) c.goals_before.ensures.number
