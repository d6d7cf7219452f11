-- A goal's number gives back its place.
use Rattle.std.proofs.Common.{◌≡◌, ℕ, zero, suc, ◌+◌, ◌<◌, ◌≤◌, refl, sym, ◌∙◌, ap, arith, nat_lt, Bool, true, false, cond, List, [], ◌∷◌, length, take, Some}
use Rattle.std.specs.List.{slice_get}
use Rattle.std.proofs.lemmas.List.Sums.{sum_by-cons}
use Rattle.tcl_lang.specs.declared.pred.Line.{Line}
use Rattle.tcl_lang.specs.Line.{is_goal}
use Rattle.tcl_lang.specs.Goal.{is_goal_at, goals_before, goal_count}
use Rattle.tcl_lang.proofs.Correctness.{goal_line}
use Rattle.tcl_lang.proofs.Runs.{one_if, goals_begin}
use Rattle.std.proofs.lemmas.Bool.{ltb-true}
use Rattle.std.proofs.lemmas.Bool.Decides.{nat_tests}
use Rattle.tcl_goals.specs.Places.{next_place, goal_place, has_goal}

-- one line more in front
goals_first : (l : Line) (lines : List Line) (k : ℕ) → goals_before (l ∷ lines) (suc k) ≡ one_if (is_goal l) + goals_before lines k
unfolding goals_before
goals_first l lines k = sum_by-cons (λ x. cond (is_goal x) 1 0) l (take k lines)

goal_count_first : (l : Line) (lines : List Line) → goal_count (l ∷ lines) ≡ one_if (is_goal l) + goal_count lines
goal_count_first l lines = sum_by-cons (λ x. cond (is_goal x) 1 0) l lines

next_step : (b : Bool) (others : ℕ → ℕ) (n k : ℕ) → others n ≡ k → next_place b (one_if b + n) others ≡ suc k
next_step true others n k e = let same : 1 + n ≡ suc n = omega arith in ap (λ i. next_place true i others) same ∙ ap suc e
next_step false others n k e = let same : 0 + n ≡ n = omega arith in ap suc (ap others same ∙ e)

place_here : (b : Bool) (others : ℕ → ℕ) → b ≡ true → next_place b 0 others ≡ 0
place_here true others e = refl
place_here false others e = absurd (cc)

same_line : (m l : Line) → Some m ≡ Some l → m ≡ l
same_line m l e = cc

place_at : (lines : List Line) (k : ℕ) (l : Line) → slice_get lines k ≡ Some l → is_goal l ≡ true → goal_place lines (goals_before lines k) ≡ k
unfolding goal_place
place_at [] k l e g = absurd (cc)
place_at (m ∷ lines) zero l e g =
    ap (λ i. next_place (is_goal m) i (goal_place lines)) (goals_begin (m ∷ lines))
    ∙ place_here (is_goal m) (goal_place lines) (ap is_goal (same_line m l e) ∙ g)
place_at (m ∷ lines) (suc k) l e g =
    ap (λ i. next_place (is_goal m) i (goal_place lines)) (goals_first m lines k)
    ∙ next_step (is_goal m) (goal_place lines) (goals_before lines k) k (place_at lines k l e g)

-- the place of the goal that stands at a place
pub place_of_goal : (lines : List Line) (k : ℕ) → is_goal_at lines k ≡ true → goal_place lines (goals_before lines k) ≡ k
place_of_goal lines k p = let g = goal_line lines k p in place_at lines k g.0 g.1 g.2

below_count : (lines : List Line) (k : ℕ) (l : Line) → slice_get lines k ≡ Some l → is_goal l ≡ true → goals_before lines k < goal_count lines
below_count [] k l e g = absurd (cc)
below_count (m ∷ lines) zero l e g =
    omega (arith, goals_begin (m ∷ lines), goal_count_first m lines, ap one_if (ap is_goal (same_line m l e) ∙ g))
below_count (m ∷ lines) (suc k) l e g =
    omega (arith, goals_first m lines k, goal_count_first m lines, below_count lines k l e g)

-- the number of a goal is one of the numbers of goals
pub goal_number_below : (lines : List Line) (k : ℕ) → is_goal_at lines k ≡ true → goals_before lines k < goal_count lines
goal_number_below lines k p = let g = goal_line lines k p in below_count lines k g.0 g.1 g.2

-- a goal's place is one of the lines'
next_bound : (b : Bool) (i n : ℕ) (others : ℕ → ℕ) → ((j : ℕ) → others j ≤ n) → next_place b i others ≤ suc n
next_bound true zero n others h = omega arith
next_bound true (suc i) n others h = omega (arith, h i)
next_bound false i n others h = omega (arith, h i)

pub goal_place_bound : (lines : List Line) (i : ℕ) → goal_place lines i ≤ length lines
unfolding goal_place
goal_place_bound [] i = omega arith
goal_place_bound (l ∷ lines) i = next_bound (is_goal l) i (length lines) (goal_place lines) (goal_place_bound lines)

next_below : (b : Bool) (i n count : ℕ) (others : ℕ → ℕ) → ((j : ℕ) → j < count → others j < n) → i < one_if b + count → next_place b i others < suc n
next_below true zero n count others h less = omega arith
next_below true (suc i) n count others h less = let small : i < count = omega arith in omega (arith, h i small)
next_below false i n count others h less = let small : i < count = omega arith in omega (arith, h i small)

place_below : (lines : List Line) (i : ℕ) → i < goal_count lines → goal_place lines i < length lines
unfolding goal_place
place_below [] i less = absurd (omega arith)
place_below (l ∷ lines) i less =
    next_below (is_goal l) i (length lines) (goal_count lines) (goal_place lines) (place_below lines) (omega (arith, goal_count_first l lines))

pub goal_place_below : (lines : List Line) (i : ℕ) → has_goal lines i ≡ true → goal_place lines i < length lines
goal_place_below lines i h = place_below lines i (ltb-true i (goal_count lines) h)

-- a goal exists exactly where its place is one of the lines'
next_tells : (b : Bool) (i n count : ℕ) (others : ℕ → ℕ) → ((j : ℕ) → nat_lt (others j) n ≡ nat_lt j count) → nat_lt (next_place b i others) (suc n) ≡ nat_lt i (one_if b + count)
next_tells true zero n count others h = grind (arith, nat_tests)
next_tells true (suc i) n count others h = grind (arith, nat_tests, h i)
next_tells false i n count others h = grind (arith, nat_tests, h i)

pub place_tells : (lines : List Line) (i : ℕ) → nat_lt (goal_place lines i) (length lines) ≡ has_goal lines i
unfolding goal_place
place_tells [] i = grind (arith, nat_tests)
place_tells (l ∷ lines) i =
    next_tells (is_goal l) i (length lines) (goal_count lines) (goal_place lines) (place_tells lines)
    ∙ ap (λ n. nat_lt i n) (sym (goal_count_first l lines))
