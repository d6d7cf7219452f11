-- A program is correct where no input is a counterexample, and a run refutes nothing but the first line that is false in it.
use Rattle.std.proofs.Common.{◌≡◌, ◌↔◌, ℕ, zero, suc, ◌+◌, ◌-◌, ◌<◌, ◌≤◌, ◌⊎◌, inl, inr, refl, sym, ◌∙◌, ap, arith, ℤ, Bool, true, false, not, ◌||◌, List, length, Option, Some, None}
use Rattle.std.specs.List.{slice_get}
use Rattle.std.proofs.lemmas.Option.{slice_get_within, slice_get_cases}
use Rattle.tcl_lang.specs.declared.ty.Word.{Word}
use Rattle.tcl_lang.specs.declared.pred.Line.{Line}
use Rattle.tcl_lang.specs.declared.pred.Line.TheVariants.{Input, Pre, Step, Assert, Assume, Cut, Post}
use Rattle.tcl_lang.specs.Exactness.{has_condition}
use Rattle.tcl_lang.specs.Line.{is_precondition, is_assumption, is_goal, line_truth}
use Rattle.tcl_lang.specs.Run.{Fits, taken_types, store_at}
use Rattle.tcl_lang.specs.Goal.{passes, is_precondition_at, is_assumption_at, is_goal_at, goals_before, IsGoalAt, truth_in, truth_at, MeetsPrecondition, KeepsAssumptions}
use Rattle.tcl_lang.specs.Correct.{IsCorrect, IsCounterexample}
use Rattle.tcl_lang.proofs.Runs.{one_if, goals_go, goals_stay}

-- a truth value is not both
pub true_not_false : (b : Bool) → b ≡ true → b ≡ false → ⊥
true_not_false b p q = cc

bool_cases : (b : Bool) → (b ≡ true) ⊎ (b ≡ false)
bool_cases true = inl refl
bool_cases false = inr refl

-- a test that a line passes has a line
passes_within : (test : Line → Bool) (o : Option Line) → passes test o ≡ true → (l : Line) × (o ≡ Some l) × (test l ≡ true)
passes_within test None p = absurd (cc)
passes_within test (Some l) p = (l, refl, p)

-- the line of a goal
pub goal_line : (lines : List Line) (k : ℕ) → is_goal_at lines k ≡ true → (l : Line) × (slice_get lines k ≡ Some l) × (is_goal l ≡ true)
goal_line lines k p = passes_within is_goal (slice_get lines k) p

pub goal_within : (lines : List Line) (k : ℕ) → is_goal_at lines k ≡ true → k < length lines
goal_within lines k p = let g = goal_line lines k p in slice_get_within lines k g.0 g.1

pub assumption_within : (lines : List Line) (k : ℕ) → is_assumption_at lines k ≡ true → k < length lines
assumption_within lines k p =
    let g = passes_within is_assumption (slice_get lines k) p in slice_get_within lines k g.0 g.1

pub precondition_within : (lines : List Line) (k : ℕ) → is_precondition_at lines k ≡ true → k < length lines
precondition_within lines k p =
    let g = passes_within is_precondition (slice_get lines k) p in slice_get_within lines k g.0 g.1

-- a line that can be false is part of the precondition, an assumption or a goal
condition_stated : (b e : Bool) → (not b || e) ≡ false → b ≡ true
condition_stated true e p = refl
condition_stated false e p = absurd (cc)

abbrev IsStated : Line → Type 0
IsStated l = (is_precondition l ≡ true) ⊎ (is_assumption l ≡ true) ⊎ (is_goal l ≡ true)

line_stated : (store : List Word) (l : Line) → line_truth store l ≡ false → IsStated l
line_stated store (Input T name) f = absurd (cc)
line_stated store (Pre p) f = inl refl
line_stated store (Step i) f = inr (inr (condition_stated (has_condition i.op) _ f))
line_stated store (Assert p) f = inr (inr refl)
line_stated store (Assume p) f = inr (inl refl)
line_stated store (Cut p) f = inr (inr refl)
line_stated store (Post p) f = inr (inr refl)

stated_in : (store : List Word) (o : Option Line) → truth_in store o ≡ false → (passes is_precondition o ≡ true) ⊎ (passes is_assumption o ≡ true) ⊎ (passes is_goal o ≡ true)
stated_in store None f = absurd (cc)
stated_in store (Some l) f = line_stated store l f

pub false_stated : (names : ℕ) (lines : List Line) (input : List ℤ) (k : ℕ) → truth_at names lines input k ≡ false → (is_precondition_at lines k ≡ true) ⊎ (is_assumption_at lines k ≡ true) ⊎ (is_goal_at lines k ≡ true)
unfolding truth_at
false_stated names lines input k f = stated_in (store_at names lines input k) (slice_get lines k) f

-- a line that is false stands among the lines
pub false_within : (names : ℕ) (lines : List Line) (input : List ℤ) (k : ℕ) → truth_at names lines input k ≡ false → k < length lines
false_within names lines input k f = elim (false_stated names lines input k f) [
  | inl p ↦ precondition_within lines k p
  | inr r ↦ elim r [ inl a ↦ assumption_within lines k a | inr g ↦ goal_within lines k g ]
]

-- nothing before place k is false in the run
abbrev pub AllTrueBefore : ℕ → List Line → List ℤ → ℕ → Type 0
AllTrueBefore names lines input k = (j : ℕ) → j < k → truth_at names lines input j ≡ true

-- place k is the first of a false line
pub record IsFirstFalse (names : ℕ) (lines : List Line) (input : List ℤ) (k : ℕ) : Type 0 where
  pub false_there : truth_at names lines input k ≡ false
  pub earlier : AllTrueBefore names lines input k

true_before_more : (names : ℕ) (lines : List Line) (input : List ℤ) (k : ℕ) → AllTrueBefore names lines input k → truth_at names lines input k ≡ true → AllTrueBefore names lines input (suc k)
true_before_more names lines input k before here j h =
    elim (lt_or_same j k h) [ inl less ↦ before j less | inr e ↦ ap (truth_at names lines input) e ∙ here ]
  where
    lt_or_same : (j k : ℕ) → j < suc k → (j < k) ⊎ (j ≡ k)
    lt_or_same j k h = grind arith

-- below place n all is true, or there is a first false line
pub first_false_below : (names : ℕ) (lines : List Line) (input : List ℤ) (n : ℕ) → AllTrueBefore names lines input n ⊎ ((k : ℕ) × (k < n) × IsFirstFalse names lines input k)
first_false_below names lines input zero = inl (λ j h. absurd (omega arith))
first_false_below names lines input (suc n) = elim (first_false_below names lines input n) [
  | inl before ↦ elim (bool_cases (truth_at names lines input n)) [
    | inl here ↦ inl (true_before_more names lines input n before here)
    | inr here ↦ inr (n, omega arith, record { false_there = here; earlier = before })
  ]
  | inr f ↦ inr (f.0, omega (arith, f.1), f.2)
]

-- a false line has a first false line at or before it
pub first_false : (names : ℕ) (lines : List Line) (input : List ℤ) (k : ℕ) → truth_at names lines input k ≡ false → (j : ℕ) × (j ≤ k) × IsFirstFalse names lines input j
first_false names lines input k f = elim (first_false_below names lines input k) [
  | inl before ↦ (k, omega arith, record { false_there = f; earlier = before })
  | inr g ↦ (g.0, omega (arith, g.1), g.2)
]

-- where the precondition is met, the first false line is an assumption or a goal
pub first_false_stated : (names : ℕ) (lines : List Line) (input : List ℤ) (k : ℕ) → MeetsPrecondition names lines input → IsFirstFalse names lines input k → (is_assumption_at lines k ≡ true) ⊎ (is_goal_at lines k ≡ true)
first_false_stated names lines input k meets f = elim (false_stated names lines input k f.false_there) [
  | inl p ↦ absurd (true_not_false (truth_at names lines input k) (meets k p) f.false_there)
  | inr r ↦ r
]

-- where it is a goal, the input refutes that goal
pub first_false_refutes : (names : ℕ) (lines : List Line) (input : List ℤ) (k : ℕ) → Fits (taken_types lines) input → MeetsPrecondition names lines input → IsFirstFalse names lines input k → is_goal_at lines k ≡ true → IsCounterexample names lines input (goals_before lines k)
first_false_refutes names lines input k fits meets f g = record {
  place = k;
  at = record { goal = g; number = refl };
  fits = fits;
  precondition = meets;
  assumptions = λ j h a. f.earlier j h;
  goals = λ j h a. f.earlier j h;
  fails = f.false_there;
}

-- an input refutes nothing but the goal of its first false line
pub counterexample_first : (names : ℕ) (lines : List Line) (input : List ℤ) (i : ℕ) (c : IsCounterexample names lines input i) → IsFirstFalse names lines input c.place
counterexample_first names lines input i c = record { false_there = c.fails; earlier = before }
  where
    before : AllTrueBefore names lines input c.place
    before j h = elim (bool_cases (truth_at names lines input j)) [
      | inl here ↦ here
      | inr f ↦ elim (false_stated names lines input j f) [
        | inl p ↦ c.precondition j p
        | inr r ↦ elim r [ inl a ↦ c.assumptions j h a | inr g ↦ c.goals j h g ]
      ]
    ]

-- there is one first false line
pub first_false_once : (names : ℕ) (lines : List Line) (input : List ℤ) (j k : ℕ) → IsFirstFalse names lines input j → IsFirstFalse names lines input k → j ≡ k
first_false_once names lines input j k f g = elim (order j k) [
  | inl less ↦ absurd (true_not_false (truth_at names lines input j) (g.earlier j less) f.false_there)
  | inr r ↦ elim r [ inl e ↦ e | inr more ↦ absurd (true_not_false (truth_at names lines input k) (f.earlier k more) g.false_there) ]
]
  where
    order : (j k : ℕ) → (j < k) ⊎ (j ≡ k) ⊎ (k < j)
    order j k = grind arith

-- an input refutes one goal at most
pub counterexample_once : (names : ℕ) (lines : List Line) (input : List ℤ) (i j : ℕ) → IsCounterexample names lines input i → IsCounterexample names lines input j → i ≡ j
counterexample_once names lines input i j c d =
    let same = first_false_once names lines input c.place d.place (counterexample_first names lines input i c) (counterexample_first names lines input j d) in
    sym c.at.number ∙ ap (goals_before lines) same ∙ d.at.number

-- a correct program has no counterexample
pub correct_no_counterexample : (names : ℕ) (lines : List Line) → IsCorrect names lines → (input : List ℤ) (i : ℕ) → IsCounterexample names lines input i → ⊥
unfolding IsCorrect
correct_no_counterexample names lines correct input i c =
    true_not_false (truth_at names lines input c.place)
    (correct input c.fits c.precondition c.place c.at.goal c.assumptions) c.fails

-- in a run that refutes no goal, the goals below place n hold where the assumptions before them do
goals_hold : (names : ℕ) (lines : List Line) (input : List ℤ) → ((i : ℕ) → IsCounterexample names lines input i → ⊥) → Fits (taken_types lines) input → MeetsPrecondition names lines input → (n j : ℕ) → j < n → is_goal_at lines j ≡ true → KeepsAssumptions names lines input j → truth_at names lines input j ≡ true
goals_hold names lines input none fits meets zero j h goal keeps = absurd (omega arith)
goals_hold names lines input none fits meets (suc n) j h goal keeps = elim (bool_cases (truth_at names lines input j)) [
  | inl here ↦ here
  | inr f ↦ absurd (none (goals_before lines j) (record {
    place = j;
    at = record { goal = goal; number = refl };
    fits = fits;
    precondition = meets;
    assumptions = keeps;
    goals = λ m less g. goals_hold names lines input none fits meets n m (omega arith) g (λ a earlier s. keeps a (omega arith) s);
    fails = f;
  }))
]

-- a program without counterexamples is correct
pub no_counterexample_correct : (names : ℕ) (lines : List Line) → ((input : List ℤ) (i : ℕ) → IsCounterexample names lines input i → ⊥) → IsCorrect names lines
unfolding IsCorrect
no_counterexample_correct names lines none input fits meets k goal keeps =
    goals_hold names lines input (none input) fits meets (suc k) k (omega arith) goal keeps

-- a later place has no fewer goals before it, and the goals up to a goal are one more
pub goals_grow : (lines : List Line) (k n : ℕ) → goals_before lines k ≤ goals_before lines (k + n)
goals_grow lines k zero =
    let same : k ≡ k + 0 = omega arith in
    let counts = ap (goals_before lines) same in omega arith
goals_grow lines k (suc n) = elim (slice_get_cases lines (k + n)).1 [
  | inl r ↦ let step = goals_go lines (k + n) r.0 r.2 in omega (arith, step, ap (goals_before lines) next, goals_grow lines k n)
  | inr r ↦ let step = goals_stay lines (k + n) r.0 in omega (arith, step, ap (goals_before lines) next, goals_grow lines k n)
]
  where
    next : k + suc n ≡ (k + n) + 1
    next = omega arith

pub goal_counts : (lines : List Line) (k : ℕ) → is_goal_at lines k ≡ true → goals_before lines (k + 1) ≡ goals_before lines k + 1
goal_counts lines k p =
    let g = goal_line lines k p in
    goals_go lines k g.0 g.1 ∙ ap (λ b. goals_before lines k + one_if b) g.2

goal_before_goal : (lines : List Line) (j k : ℕ) → is_goal_at lines j ≡ true → j < k → goals_before lines j < goals_before lines k
goal_before_goal lines j k p h =
    let apart : (j + 1) + (k - (j + 1)) ≡ k = omega arith in
    omega (arith, goal_counts lines j p, goals_grow lines (j + 1) (k - (j + 1)), ap (goals_before lines) apart)

-- a number has one goal
pub goal_once : (lines : List Line) (i j k : ℕ) → IsGoalAt lines i j → IsGoalAt lines i k → j ≡ k
goal_once lines i j k p q = elim (order j k) [
  | inl less ↦ absurd (omega (arith, goal_before_goal lines j k p.goal less, p.number, q.number))
  | inr r ↦ elim r [ inl e ↦ e | inr more ↦ absurd (omega (arith, goal_before_goal lines k j q.goal more, p.number, q.number)) ]
]
  where
    order : (j k : ℕ) → (j < k) ⊎ (j ≡ k) ⊎ (k < j)
    order j k = grind arith

pub correct_means : (names : ℕ) (lines : List Line) → IsCorrect names lines ↔ ((input : List ℤ) (i : ℕ) → IsCounterexample names lines input i → ⊥)
correct_means names lines = (correct_no_counterexample names lines, no_counterexample_correct names lines)
