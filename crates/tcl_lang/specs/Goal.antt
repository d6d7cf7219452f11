-- Goals: the lines that have one, numbered from 0 by their places, and the truth of lines in a run.
use Rattle.std.specs.Prelude.{◌≡◌, ◌<◌, ℕ, ℤ, Bool, true, false, List, take, slice_get, Option, Some, None, count_by}
use Rattle.tcl_lang.specs.declared.ty.Word.{Word}
use Rattle.tcl_lang.specs.declared.pred.Line.{Line}
use Rattle.tcl_lang.specs.Line.{is_precondition, is_assumption, is_goal, line_truth}
use Rattle.tcl_lang.specs.Run.{store_at}

-- there is a line and it passes the test
abbrev pub passes : (Line → Bool) → Option Line → Bool
passes test None = false
passes test (Some l) = test l

-- the line of place k is part of the precondition, an assumption, a goal
abbrev pub is_precondition_at : List Line → ℕ → Bool
is_precondition_at lines k = passes is_precondition (slice_get lines k)

abbrev pub is_assumption_at : List Line → ℕ → Bool
is_assumption_at lines k = passes is_assumption (slice_get lines k)

abbrev pub is_goal_at : List Line → ℕ → Bool
is_goal_at lines k = passes is_goal (slice_get lines k)

-- the number of goals before place k
unfoldable pub goals_before : List Line → ℕ → ℕ
goals_before lines k = count_by is_goal (take k lines)

-- the number of goals
abbrev pub goal_count : List Line → ℕ
goal_count lines = count_by is_goal lines

-- goal i stands at place k
pub record IsGoalAt (lines : List Line) (i k : ℕ) : Type 0 where
  pub goal : is_goal_at lines k ≡ true
  pub number : goals_before lines k ≡ i

-- what a line states is true in the store before it; true where there is no line
abbrev pub truth_in : List Word → Option Line → Bool
truth_in store None = true
truth_in store (Some l) = line_truth store l

-- what the line of place k states is true in the run from this input
unfoldable pub truth_at : ℕ → List Line → List ℤ → ℕ → Bool
truth_at names lines input k = truth_in (store_at names lines input k) (slice_get lines k)

-- the run meets the precondition
abbrev pub MeetsPrecondition : ℕ → List Line → List ℤ → Type 0
MeetsPrecondition names lines input = (k : ℕ) → is_precondition_at lines k ≡ true → truth_at names lines input k ≡ true

-- the run keeps the assumptions before place k
abbrev pub KeepsAssumptions : ℕ → List Line → List ℤ → ℕ → Type 0
KeepsAssumptions names lines input k =
    (j : ℕ) → j < k → is_assumption_at lines j ≡ true → truth_at names lines input j ≡ true

-- the run meets the goals before place k
abbrev pub MeetsGoals : ℕ → List Line → List ℤ → ℕ → Type 0
MeetsGoals names lines input k =
    (j : ℕ) → j < k → is_goal_at lines j ≡ true → truth_at names lines input j ≡ true
