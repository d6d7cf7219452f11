-- Counterexamples that a computation has checked: the computed truth is `Yes` for all that must hold, `No` for the goal.
use Rattle.std.specs.Prelude.{◌≡◌, ◌<◌, ℕ, ℤ, true, List, slice_get, Option, Some, None}
use Rattle.tcl_lang.specs.declared.outcome.Truth.{Truth}
use Rattle.tcl_lang.specs.declared.outcome.Truth.TheVariants.{Yes, No}
use Rattle.tcl_lang.specs.declared.ty.Word.{Word}
use Rattle.tcl_lang.specs.declared.pred.Line.{Line}
use Rattle.tcl_lang.specs.Run.{Fits, taken_types, store_at}
use Rattle.tcl_lang.specs.Goal.{is_precondition_at, is_assumption_at, is_goal_at, IsGoalAt}
use Rattle.tcl_lang.specs.Truth.{line_computed}

-- the computed truth of the line of place k, in the run from this input
abbrev pub computed_in : List Word → Option Line → Truth
computed_in store None = Yes
computed_in store (Some l) = line_computed store l

unfoldable pub computed_at : ℕ → List Line → List ℤ → ℕ → Truth
computed_at names lines input k = computed_in (store_at names lines input k) (slice_get lines k)

-- the input refutes goal i by the computed truths
pub record IsCheckedCounterexample (names : ℕ) (lines : List Line) (input : List ℤ) (i : ℕ) : Type 0 where
  pub place : ℕ
  pub at : IsGoalAt lines i place
  pub fits : Fits (taken_types lines) input
  pub precondition : (j : ℕ) → is_precondition_at lines j ≡ true → computed_at names lines input j ≡ Yes
  pub assumptions : (j : ℕ) → j < place → is_assumption_at lines j ≡ true → computed_at names lines input j ≡ Yes
  pub goals : (j : ℕ) → j < place → is_goal_at lines j ≡ true → computed_at names lines input j ≡ Yes
  pub fails : computed_at names lines input place ≡ No
