-- The number of the goal of a place, and which of two goals stands first.
use Rattle.std.proofs.Common.{◌≡◌, ◌<◌, ◌≤◌, ◌+◌, ◌-◌, ℕ, zero, suc, Bool, true, false, List, [], ◌∷◌, length, refl, sym, ◌∙◌, subst, arith, Option, Some, None}
use Rattle.std.specs.List.{slice_get}
use Rattle.std.proofs.lemmas.Bool.{lt-ltb}
use Rattle.tcl_lang.specs.declared.outcome.Truth.{Truth}
use Rattle.tcl_lang.specs.declared.outcome.Truth.TheVariants.{Yes, No, Wide}
use Rattle.tcl_lang.specs.declared.pred.Line.{Line}
use Rattle.tcl_lang.specs.Line.{is_goal}
use Rattle.tcl_lang.specs.Goal.{goal_count, is_goal_at, goals_before, passes}
use Rattle.tcl_lang.proofs.Runs.{one_if, goals_go, goals_stay}
use Rattle.tcl_lang.proofs.Correctness.{goals_grow, goal_counts}
use Rattle.tcl_goals.specs.Places.{goal_place, has_goal}
use Rattle.tcl_goals.proofs.GoalPlaces.{place_of_goal, goal_number_below}
use Rattle.tcl_kernel.specs.declared.stray.Stray.{Stray}
use Rattle.tcl_kernel.proofs.GoalsFound.{goal_found}
use Rattle.tcl_worker.specs.Strays.{is_false_goal, IsFalseGoal}

-- counting goals
pub counted_on : (lines : List Line) (k : ℕ) → is_goal_at lines k ≡ true → goals_before lines (k + 1) ≡ goals_before lines k + 1
counted_on lines k e = goal_counts lines k e

counted_line : (lines : List Line) (k : ℕ) (o : Option Line) → slice_get lines k ≡ o → passes is_goal o ≡ false → goals_before lines (k + 1) ≡ goals_before lines k
counted_line lines k None at e = goals_stay lines k (past lines k at)
  where
    past : (xs : List Line) (n : ℕ) → slice_get xs n ≡ None → length xs ≤ n
    past [] n e = omega arith
    past (x ∷ xs) zero e = absurd (cc)
    past (x ∷ xs) (suc n) e = omega (arith, past xs n e)
counted_line lines k (Some l) at e = goals_go lines k l at ∙ none_more (is_goal l) e
  where
    none_more : (b : Bool) → b ≡ false → goals_before lines k + one_if b ≡ goals_before lines k
    none_more true h = absurd (cc)
    none_more false h = omega arith

pub counted_past : (lines : List Line) (k : ℕ) → is_goal_at lines k ≡ false → goals_before lines (k + 1) ≡ goals_before lines k
counted_past lines k e = counted_line lines k (slice_get lines k) refl e

-- the stray that is a false goal
truth_no : (lines : List Line) (place : ℕ) (t : Truth) → is_false_goal lines place t ≡ true → (t ≡ No) × (is_goal_at lines place ≡ true)
truth_no lines place Yes e = absurd (cc)
truth_no lines place No e = (refl, e)
truth_no lines place Wide e = absurd (cc)

pub false_goal_is : (lines : List Line) (s : Stray) (n : ℕ) → is_false_goal lines s.place s.truth ≡ true → n ≡ goals_before lines s.place → IsFalseGoal lines s n
false_goal_is lines s n e same =
    let parts = truth_no lines s.place s.truth e in
    subst (IsFalseGoal lines s) (sym same) (record {
      has = lt-ltb (goals_before lines s.place) (goal_count lines) (goal_number_below lines s.place parts.1);
      place = place_of_goal lines s.place parts.1;
      truth = parts.0;
    })

-- goals stand in the order of their numbers
pub earlier_goal : (lines : List Line) (g i : ℕ) → has_goal lines g ≡ true → has_goal lines i ≡ true → goal_place lines g < goal_place lines i → g < i
earlier_goal lines g i has_g has_i less =
    let at_g = goal_found lines g has_g in
    let at_i = goal_found lines i has_i in
    let a = goal_place lines g in
    let grown = goals_grow lines (a + 1) (goal_place lines i - (a + 1)) in
    let same : a + 1 + (goal_place lines i - (a + 1)) ≡ goal_place lines i = omega arith in
    let more = subst (λ n. goals_before lines (a + 1) ≤ goals_before lines n) same grown in
    omega (arith, more, goal_counts lines a at_g.goal, at_g.number, at_i.number)
