-- Correct programs, and inputs that refute one. Programs are lists of lines over numbered names; the same words serve a
-- program with names and its versioned form.
-- Partial correctness under assumptions, as of Typed CryptoLine (Fu, Liu, Shi, Tsai, Wang, Yang, CCS 2019).
use Rattle.std.specs.Prelude.{◌≡◌, ℕ, ℤ, true, false, List}
use Rattle.tcl_lang.specs.declared.pred.Line.{Line}
use Rattle.tcl_lang.specs.Run.{Fits, taken_types}
use Rattle.tcl_lang.specs.Goal.{is_goal_at, IsGoalAt, truth_at, MeetsPrecondition, KeepsAssumptions, MeetsGoals}

-- every goal is true in every run from an input that meets the precondition and keeps the assumptions before the goal
unfoldable pub IsCorrect : ℕ → List Line → Type 0
IsCorrect names lines =
    (input : List ℤ) → Fits (taken_types lines) input → MeetsPrecondition names lines input →
    (k : ℕ) → is_goal_at lines k ≡ true → KeepsAssumptions names lines input k → truth_at names lines input k ≡ true

-- the input refutes goal i: it meets the precondition, its run meets every assumption and goal before, and goal i is false
pub record IsCounterexample (names : ℕ) (lines : List Line) (input : List ℤ) (i : ℕ) : Type 0 where
  pub place : ℕ
  pub at : IsGoalAt lines i place
  pub fits : Fits (taken_types lines) input
  pub precondition : MeetsPrecondition names lines input
  pub assumptions : KeepsAssumptions names lines input place
  pub goals : MeetsGoals names lines input place
  pub fails : truth_at names lines input place ≡ false
