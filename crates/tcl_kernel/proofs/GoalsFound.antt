-- A goal that exists stands at its place.
use Rattle.std.proofs.Common.{◌≡◌, ℕ, zero, suc, ◌+◌, ◌<◌, refl, ◌∙◌, ap, arith, Bool, true, false, cond, List, [], ◌∷◌, take}
use Rattle.std.proofs.lemmas.List.Sums.{sum_by-cons}
use Rattle.std.proofs.lemmas.Bool.{ltb-true}
use Rattle.tcl_lang.specs.declared.pred.Line.{Line}
use Rattle.tcl_lang.specs.Line.{is_goal}
use Rattle.tcl_lang.specs.Goal.{goals_before, goal_count, IsGoalAt}
use Rattle.tcl_lang.proofs.Runs.{one_if, goals_begin}
use Rattle.tcl_goals.specs.Places.{next_place, goal_place, has_goal}

-- one line more in front
goals_first : (l : Line) (lines : List Line) (k : ℕ) → goals_before (l ∷ lines) (suc k) ≡ one_if (is_goal l) + goals_before lines k
unfolding goals_before
goals_first l lines k = sum_by-cons (λ x. cond (is_goal x) 1 0) l (take k lines)

goal_count_first : (l : Line) (lines : List Line) → goal_count (l ∷ lines) ≡ one_if (is_goal l) + goal_count lines
goal_count_first l lines = sum_by-cons (λ x. cond (is_goal x) 1 0) l lines

-- a goal of the later lines
later : (l : Line) (lines : List Line) (i j k : ℕ) → one_if (is_goal l) + j ≡ i → IsGoalAt lines j k → IsGoalAt (l ∷ lines) i (suc k)
later l lines i j k e g = record {
  goal = g.goal;
  number = goals_first l lines k ∙ ap (λ n. one_if (is_goal l) + n) g.number ∙ e;
}

found_step : (l : Line) (lines : List Line) (b : Bool) (i : ℕ) → is_goal l ≡ b → ((j : ℕ) → j < goal_count lines → IsGoalAt lines j (goal_place lines j)) → i < one_if b + goal_count lines → IsGoalAt (l ∷ lines) i (next_place b i (goal_place lines))
found_step l lines true zero e rest less = record { goal = e; number = goals_begin (l ∷ lines) }
found_step l lines true (suc i) e rest less =
    let small : i < goal_count lines = omega arith in
    let number : one_if (is_goal l) + i ≡ suc i = omega (arith, ap one_if e) in
    later l lines (suc i) i (goal_place lines i) number (rest i small)
found_step l lines false i e rest less =
    let small : i < goal_count lines = omega arith in
    let number : one_if (is_goal l) + i ≡ i = omega (arith, ap one_if e) in
    later l lines i i (goal_place lines i) number (rest i small)

found : (lines : List Line) (i : ℕ) → i < goal_count lines → IsGoalAt lines i (goal_place lines i)
unfolding goal_place
found [] i less = absurd (omega arith)
found (l ∷ lines) i less = found_step l lines (is_goal l) i refl (found lines) (omega (arith, goal_count_first l lines))

pub goal_found : (lines : List Line) (i : ℕ) → has_goal lines i ≡ true → IsGoalAt lines i (goal_place lines i)
goal_found lines i h = found lines i (ltb-true i (goal_count lines) h)
