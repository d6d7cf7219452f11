-- Strays that are goals. No public clause cites this module.
use Rattle.std.specs.Prelude.{◌≡◌, ℕ, Bool, true, false, List, Option, Some, None}
use Rattle.tcl_lang.specs.declared.outcome.Truth.{Truth}
use Rattle.tcl_lang.specs.declared.outcome.Truth.TheVariants.{Yes, No, Wide}
use Rattle.tcl_lang.specs.declared.pred.Line.{Line}
use Rattle.tcl_lang.specs.Goal.{is_goal_at}
use Rattle.tcl_goals.specs.Places.{goal_place, has_goal}
use Rattle.tcl_kernel.specs.declared.stray.Stray.{Stray}

-- the line of this place is a goal, and the truth is `No`
abbrev pub is_false_goal : List Line → ℕ → Truth → Bool
is_false_goal lines place Yes = false
is_false_goal lines place No = is_goal_at lines place
is_false_goal lines place Wide = false

-- the stray is the line of the goal of this number, with the truth `No`
pub record IsFalseGoal (lines : List Line) (s : Stray) (g : ℕ) : Type 0 where
  pub has : has_goal lines g ≡ true
  pub place : goal_place lines g ≡ s.place
  pub truth : s.truth ≡ No

-- the goal that a stray is, none where it is no false goal
abbrev pub IsGoalOf : List Line → Stray → Option ℕ → Type 0
IsGoalOf lines s None = is_false_goal lines s.place s.truth ≡ false
IsGoalOf lines s (Some g) = IsFalseGoal lines s g
