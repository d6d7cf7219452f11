-- The search of a slice: what is reached stays, is in each closed set, and is followed in the end.
use Rattle.std.proofs.Common.{◌≡◌, ◌⊎◌, inl, inr, ℕ, zero, suc, ◌+◌, ◌<◌, ◌≤◌, refl, sym, ◌∙◌, ap, subst, arith, Bool, true, false, not, ◌&&◌, List, [], ◌∷◌, ◌++◌, length, set, get_or, replicate, Some, nat_eq, nat_lt, if◌then◌else◌}
use Rattle.std.specs.List.{slice_get, list_any, fold}
use Rattle.std.proofs.lemmas.Bool.{cases_eq, cases_lt, cases_Bool, and_parts, eqb-true, ltb-true}
use Rattle.std.proofs.lemmas.Bool.Decides.{nat_tests}
use Rattle.std.proofs.lemmas.List.{length-append, length-set, get_or-set_same, get_or-set_other, get_or_past}
use Rattle.std.proofs.lemmas.Option.{slice_get_within, slice_get-get_or}
use Rattle.tcl_list.proofs.Booleans.{or_cases, or_left, or_right}
use Rattle.tcl_lang.specs.declared.pred.Line.{Line}
use Rattle.tcl_lang.specs.Defined.{is_among}
use Rattle.tcl_goals.specs.declared.cuts.Starts.{Starts}
use Rattle.tcl_goals.specs.Closure.{is_marked, mark_one, mark_all, Below, Obeys}
use Rattle.tcl_goals.specs.Defaults.{is_default_at}
use Rattle.tcl_goals.specs.Slices.{read_in, defined_in, named_in, is_default_step, step_rule, hyp_rule}
use Rattle.tcl_slice.specs.declared.search.Search.{Search}
use Rattle.tcl_slice.specs.Touching.{reached, reached_all, step_taken, with_taken, hyp_taken, line_taken, variable_followed, next_followed, grown}

pub clash : {P : Type 0} (b : Bool) → b ≡ true → b ≡ false → P
clash b e f = absurd (cc)

pub if_cases : {X : Type 0} (P : X → Type 0) (b : Bool) (x y : X) → (b ≡ true → P x) → (b ≡ false → P y) → P (if b then x else y)
if_cases P true x y f g = f refl
if_cases P false x y f g = g refl

-- members
among_first : (v : ℕ) (vs : List ℕ) → is_among (v ∷ vs) v ≡ true
among_first v vs = or_left (nat_eq v v) (is_among vs v) (self v)
  where
    self : (n : ℕ) → nat_eq n n ≡ true
    self n = grind (arith, nat_tests)

pub among_later : (v x : ℕ) (vs : List ℕ) → is_among vs v ≡ true → is_among (x ∷ vs) v ≡ true
among_later v x vs e = or_right (nat_eq x v) (is_among vs v) e

pub among_left : (xs ys : List ℕ) (v : ℕ) → is_among xs v ≡ true → is_among (xs ++ ys) v ≡ true
among_left [] ys v e = absurd (cc)
among_left (x ∷ xs) ys v e = elim (or_cases (nat_eq x v) (is_among xs v) e) [
  | inl here ↦ or_left (nat_eq x v) (is_among (xs ++ ys) v) here
  | inr rest ↦ or_right (nat_eq x v) (is_among (xs ++ ys) v) (among_left xs ys v rest)
]

pub among_right : (xs ys : List ℕ) (v : ℕ) → is_among ys v ≡ true → is_among (xs ++ ys) v ≡ true
among_right [] ys v e = e
among_right (x ∷ xs) ys v e = or_right (nat_eq x v) (is_among (xs ++ ys) v) (among_right xs ys v e)

among_at : (xs : List ℕ) (v : ℕ) → is_among xs v ≡ true → (n : ℕ) × (slice_get xs n ≡ Some v)
among_at [] v e = absurd (cc)
among_at (x ∷ xs) v e = elim (or_cases (nat_eq x v) (is_among xs v) e) [
  | inl here ↦ (0, ap (λ y. Some y) (eqb-true x v here))
  | inr rest ↦ let found = among_at xs v rest in (suc found.0, found.1)
]

any_found : (m : List Bool) (vs : List ℕ) → list_any (is_marked m) vs ≡ true → (v : ℕ) × (is_among vs v ≡ true) × (is_marked m v ≡ true)
any_found m [] e = absurd (cc)
any_found m (v ∷ vs) e = elim (or_cases (is_marked m v) (list_any (is_marked m) vs) e) [
  | inl here ↦ (v, among_first v vs, here)
  | inr rest ↦ let found = any_found m vs rest in (found.0, among_later found.0 v vs found.1, found.2)
]

any_from : (m : List Bool) (vs : List ℕ) (v : ℕ) → is_among vs v ≡ true → is_marked m v ≡ true → list_any (is_marked m) vs ≡ true
any_from m [] v e f = absurd (cc)
any_from m (x ∷ vs) v e f = elim (or_cases (nat_eq x v) (is_among vs v) e) [
  | inl here ↦ or_left (is_marked m x) (list_any (is_marked m) vs) (ap (is_marked m) (eqb-true x v here) ∙ f)
  | inr rest ↦ or_right (is_marked m x) (list_any (is_marked m) vs) (any_from m vs v rest f)
]

-- marks
marked_within : (m : List Bool) (v : ℕ) → is_marked m v ≡ true → v < length m
marked_within m v e = elim (cases_lt v (length m)) [
  | inl h ↦ h
  | inr h ↦ clash (is_marked m v) e (get_or_past m v false h)
]

abbrev members : List Bool → ℕ
members [] = 0
members (true ∷ m) = suc (members m)
members (false ∷ m) = members m

members_bound : (m : List Bool) → members m ≤ length m
members_bound [] = omega arith
members_bound (true ∷ m) = omega (arith, members_bound m)
members_bound (false ∷ m) = omega (arith, members_bound m)

one_member : (m : List Bool) (v : ℕ) → v < length m → is_marked m v ≡ false → members (set m v true) ≡ members m + 1
one_member [] v h e = absurd (omega (arith, h))
one_member (true ∷ m) zero h e = absurd (cc)
one_member (false ∷ m) zero h e = omega arith
one_member (true ∷ m) (suc v) h e = omega (arith, one_member m v (omega (arith, h)) e)
one_member (false ∷ m) (suc v) h e = one_member m v (omega (arith, h)) e

no_member : (n : ℕ) → members (replicate n false) ≡ 0
no_member zero = refl
no_member (suc n) = no_member n

none_marked : (n v : ℕ) → is_marked (replicate n false) v ≡ false
none_marked zero v = refl
none_marked (suc n) zero = refl
none_marked (suc n) (suc v) = none_marked n v

set_below : (m : List Bool) (v : ℕ) → Below m (set m v true)
set_below m v u e = elim (cases_eq u v) [
  | inl same ↦
      let within : v < length m = omega (arith, marked_within m u e, same) in
      ap (is_marked (set m v true)) same ∙ get_or-set_same m v true false within
  | inr other ↦ get_or-set_other m v u true false other ∙ e
]

set_new : (m : List Bool) (v u : ℕ) → is_marked (set m v true) u ≡ true → (u ≡ v) ⊎ (is_marked m u ≡ true)
set_new m v u e = elim (cases_eq u v) [
  | inl same ↦ inl same
  | inr other ↦ inr (sym (get_or-set_other m v u true false other) ∙ e)
]

set_again : (m : List Bool) (v : ℕ) → is_marked m v ≡ true → set m v true ≡ m
set_again [] v e = absurd (cc)
set_again (b ∷ m) zero e = ap (λ c. c ∷ m) (sym e)
set_again (b ∷ m) (suc v) e = ap (λ n. b ∷ n) (set_again m v e)

set_past : (m : List Bool) (v : ℕ) → length m ≤ v → set m v true ≡ m
set_past [] v h = refl
set_past (b ∷ m) zero h = absurd (omega (arith, h))
set_past (b ∷ m) (suc v) h = ap (λ n. b ∷ n) (set_past m v (omega (arith, h)))

-- the order holds the marked variables, each once
pub record IsQueued (s : Search) : Type 0 where
  pub holds : (v : ℕ) → is_marked s.marks v ≡ true → is_among s.order v ≡ true
  pub marked : (n v : ℕ) → slice_get s.order n ≡ Some v → is_marked s.marks v ≡ true
  pub count : length s.order ≡ members s.marks

-- a later state
pub record Grows (s t : Search) : Type 0 where
  pub size : length t.marks ≡ length s.marks
  pub below : Below s.marks t.marks
  pub prefix : (n v : ℕ) → slice_get s.order n ≡ Some v → slice_get t.order n ≡ Some v
  pub queued : IsQueued s → IsQueued t

pub grows_same : (s : Search) → Grows s s
grows_same s = record { size = refl; below = λ v e. e; prefix = λ n v e. e; queued = λ q. q }

pub grows_on : {s t u : Search} → Grows s t → Grows t u → Grows s u
grows_on g h = record {
  size = h.size ∙ g.size;
  below = λ v e. h.below v (g.below v e);
  prefix = λ n v e. h.prefix n v (g.prefix n v e);
  queued = λ q. h.queued (g.queued q);
}

in_front : (xs ys : List ℕ) (n v : ℕ) → slice_get xs n ≡ Some v → slice_get (xs ++ ys) n ≡ Some v
in_front [] ys n v e = absurd (cc)
in_front (x ∷ xs) ys zero v e = e
in_front (x ∷ xs) ys (suc n) v e = in_front xs ys n v e

behind : (xs : List ℕ) (x n v : ℕ) → slice_get (xs ++ x ∷ []) n ≡ Some v → (v ≡ x) ⊎ (slice_get xs n ≡ Some v)
behind [] x zero v e = inl (same e)
  where
    same : {a b : ℕ} → Some a ≡ Some b → b ≡ a
    same e = cc
behind [] x (suc n) v e = absurd (cc)
behind (y ∷ xs) x zero v e = inr e
behind (y ∷ xs) x (suc n) v e = behind xs x n v e

-- one variable that is new
abbrev added : Search → ℕ → Search
added s v = record { marks = mark_one s.marks v; order = s.order ++ v ∷ []; taken = s.taken }

added_queued : (s : Search) (v : ℕ) → v < length s.marks → is_marked s.marks v ≡ false → IsQueued s → IsQueued (added s v)
added_queued s v h e q = record {
  holds = λ u m. elim (set_new s.marks v u m) [
    | inl same ↦ among_right s.order (v ∷ []) u (subst (λ x. is_among (x ∷ []) u ≡ true) same (among_first u []))
    | inr old ↦ among_left s.order (v ∷ []) u (q.holds u old)
  ];
  marked = λ n u m. elim (behind s.order v n u m) [
    | inl same ↦ ap (is_marked (set s.marks v true)) same ∙ get_or-set_same s.marks v true false h
    | inr old ↦ set_below s.marks v u (q.marked n u old)
  ];
  count = length-append s.order (v ∷ []) ∙ ap (λ n. n + 1) q.count ∙ sym (one_member s.marks v h e);
}

added_grows : (s : Search) (v : ℕ) → v < length s.marks → is_marked s.marks v ≡ false → Grows s (added s v)
added_grows s v h e = record {
  size = length-set s.marks v true;
  below = set_below s.marks v;
  prefix = in_front s.order (v ∷ []);
  queued = added_queued s v h e;
}

new_parts : (s : Search) (v : ℕ) → (nat_lt v (length s.marks) && not (is_marked s.marks v)) ≡ true → (v < length s.marks) × (is_marked s.marks v ≡ false)
new_parts s v e =
    let parts = and_parts (nat_lt v (length s.marks)) (not (is_marked s.marks v)) e in
    (ltb-true v (length s.marks) parts.0, turned (is_marked s.marks v) parts.1)
  where
    turned : (b : Bool) → not b ≡ true → b ≡ false
    turned true e = absurd (cc)
    turned false e = refl

pub reached_grows : (s : Search) (v : ℕ) → Grows s (reached s v)
reached_grows s v =
    if_cases (Grows s) (nat_lt v (length s.marks) && not (is_marked s.marks v)) (added s v) s
    (λ e. let p = new_parts s v e in added_grows s v p.0 p.1) (λ e. grows_same s)

reached_marks : (s : Search) (v : ℕ) → (reached s v).marks ≡ mark_one s.marks v
reached_marks s v =
    if_cases (λ t. t.marks ≡ mark_one s.marks v) (nat_lt v (length s.marks) && not (is_marked s.marks v)) (added s v) s
    (λ e. refl) (λ e. old (is_marked s.marks v) refl e)
  where
    old : (b : Bool) → is_marked s.marks v ≡ b → (nat_lt v (length s.marks) && not (is_marked s.marks v)) ≡ false → s.marks ≡ mark_one s.marks v
    old true f e = sym (set_again s.marks v f)
    old false f e = elim (cases_lt v (length s.marks)) [
      | inl h ↦ clash (nat_lt v (length s.marks) && not (is_marked s.marks v)) (both _ _ (less v (length s.marks) h) (ap not f)) e
      | inr h ↦ sym (set_past s.marks v h)
    ]
      where
        both : (x y : Bool) → x ≡ true → y ≡ true → (x && y) ≡ true
        both true y a b = b
        both false y a b = absurd (cc)

        less : (n m : ℕ) → n < m → nat_lt n m ≡ true
        less n m h = grind (arith, nat_tests)

-- several variables
pub all_grows : (vs : List ℕ) (s : Search) → Grows s (reached_all s vs)
all_grows [] s = grows_same s
all_grows (v ∷ vs) s = grows_on (reached_grows s v) (all_grows vs (reached s v))

pub all_marks : (vs : List ℕ) (s : Search) → (reached_all s vs).marks ≡ mark_all s.marks vs
all_marks [] s = refl
all_marks (v ∷ vs) s = all_marks vs (reached s v) ∙ ap (λ m. mark_all m vs) (reached_marks s v)

reached_here : (s : Search) (v : ℕ) → v < length s.marks → is_marked (reached s v).marks v ≡ true
reached_here s v h = ap (λ m. is_marked m v) (reached_marks s v) ∙ get_or-set_same s.marks v true false h

pub all_reached : (vs : List ℕ) (s : Search) (v : ℕ) → is_among vs v ≡ true → v < length s.marks → is_marked (reached_all s vs).marks v ≡ true
all_reached [] s v e h = absurd (cc)
all_reached (x ∷ vs) s v e h = elim (or_cases (nat_eq x v) (is_among vs v) e) [
  | inl here ↦
      (all_grows vs (reached s x)).below v (subst (λ y. is_marked (reached s y).marks v ≡ true) (sym (eqb-true x v here)) (reached_here s v h))
  | inr rest ↦ all_reached vs (reached s x) v rest (omega (arith, h, (reached_grows s x).size))
]

reached_least : (s : Search) (C : List Bool) (v : ℕ) → Below s.marks C → (v < length s.marks → is_marked C v ≡ true) → Below (reached s v).marks C
reached_least s C v b h u e = elim (set_new s.marks v u (sym (ap (λ m. is_marked m u) (reached_marks s v)) ∙ e)) [
  | inl same ↦
      let within = marked_within (reached s v).marks u e in
      ap (is_marked C) same ∙ h (omega (arith, within, same, (reached_grows s v).size))
  | inr old ↦ b u old
]

pub all_least : (vs : List ℕ) (s : Search) (C : List Bool) → Below s.marks C → ((v : ℕ) → is_among vs v ≡ true → v < length s.marks → is_marked C v ≡ true) → Below (reached_all s vs).marks C
all_least [] s C b h = b
all_least (x ∷ vs) s C b h =
    all_least vs (reached s x) C (reached_least s C x b (h x (among_first x vs)))
    (λ v e less. h v (among_later v x vs e) (omega (arith, less, (reached_grows s x).size)))

-- the lines that count, and a set that is closed under them
pub record Setting : Type 0 where
  pub lines : List Line
  pub starts : Starts
  pub place : ℕ

pub record ClosedUnder (x : Setting) (C : List Bool) : Type 0 where
  pub steps : (j : ℕ) → j < x.place → is_default_step x.lines x.starts j ≡ true → Obeys C (step_rule x.lines j)
  pub hyps : (j : ℕ) → j < x.place → is_default_at x.lines x.starts j ≡ true → Obeys C (hyp_rule x.lines j)

-- the lines that were taken read variables of the set alone
abbrev pub TakenHold : Setting → Search → Type 0
TakenHold x s = (j : ℕ) → is_marked s.taken j ≡ true → (u : ℕ) → is_among (read_in (slice_get x.lines j)) u ≡ true → u < length s.marks → is_marked s.marks u ≡ true

-- a turn of the search
pub record Turn (x : Setting) (s t : Search) : Type 0 where
  pub grows : Grows s t
  pub least : (C : List Bool) → length C ≡ length s.marks → ClosedUnder x C → Below s.marks C → Below t.marks C
  pub held : TakenHold x s → TakenHold x t

pub turn_same : (x : Setting) (s : Search) → Turn x s s
turn_same x s = record { grows = grows_same s; least = λ C n c b. b; held = λ h. h }

pub turn_on : {x : Setting} {s t u : Search} → Turn x s t → Turn x t u → Turn x s u
turn_on a b = record {
  grows = grows_on a.grows b.grows;
  least = λ C n c h. b.least C (n ∙ sym a.grows.size) c (a.least C n c h);
  held = λ h. b.held (a.held h);
}

-- variables that a closed set has
all_turn : (x : Setting) (s : Search) (vs : List ℕ) → ((C : List Bool) → length C ≡ length s.marks → ClosedUnder x C → Below s.marks C → (v : ℕ) → is_among vs v ≡ true → v < length s.marks → is_marked C v ≡ true) → (reached_all s vs).taken ≡ s.taken → Turn x s (reached_all s vs)
all_turn x s vs inside same =
    let g = all_grows vs s in
    record {
      grows = g;
      least = λ C n c b. all_least vs s C b (inside C n c b);
      held = λ h j e u m less. g.below u (h j (sym (ap (λ t. is_marked t j) same) ∙ e) u m (omega (arith, less, g.size)));
    }

reached_taken : (s : Search) (v : ℕ) → (reached s v).taken ≡ s.taken
reached_taken s v = if_cases (λ t. t.taken ≡ s.taken) (nat_lt v (length s.marks) && not (is_marked s.marks v)) (added s v) s (λ e. refl) (λ e. refl)

all_taken : (vs : List ℕ) (s : Search) → (reached_all s vs).taken ≡ s.taken
all_taken [] s = refl
all_taken (v ∷ vs) s = all_taken vs (reached s v) ∙ reached_taken s v

below_any : (m C : List Bool) (vs : List ℕ) → Below m C → list_any (is_marked m) vs ≡ true → list_any (is_marked C) vs ≡ true
below_any m C vs b e = let found = any_found m vs e in any_from C vs found.0 found.1 (b found.0 found.2)

-- a line as an instruction
step_turn : (x : Setting) (s : Search) (j : ℕ) → j < x.place → Turn x s (step_taken x.lines x.starts s j)
step_turn x s j h =
    let named = named_in (slice_get x.lines j) in
    if_cases (Turn x s) (is_default_step x.lines x.starts j && list_any (is_marked s.marks) (defined_in (slice_get x.lines j))) (reached_all s named) s
    (λ e.
    let p = and_parts (is_default_step x.lines x.starts j) (list_any (is_marked s.marks) (defined_in (slice_get x.lines j))) e in
    all_turn x s named (λ C n c b v m less. c.steps j h p.0 (below_any s.marks C (defined_in (slice_get x.lines j)) b p.1) v m (omega (arith, less, n))) (all_taken named s))
    (λ e. turn_same x s)

both_true : (x y : Bool) → x ≡ true → y ≡ true → (x && y) ≡ true
both_true true y a b = b
both_true false y a b = absurd (cc)

step_follows : (x : Setting) (s : Search) (j v u : ℕ) → is_default_step x.lines x.starts j ≡ true → is_among (defined_in (slice_get x.lines j)) v ≡ true → is_marked s.marks v ≡ true → is_among (named_in (slice_get x.lines j)) u ≡ true → u < length s.marks
    → is_marked (step_taken x.lines x.starts s j).marks u ≡ true
step_follows x s j v u counts names marked named less =
    if_cases (λ t. is_marked t.marks u ≡ true) (is_default_step x.lines x.starts j && list_any (is_marked s.marks) (defined_in (slice_get x.lines j))) (reached_all s (named_in (slice_get x.lines j))) s
    (λ e. all_reached (named_in (slice_get x.lines j)) s u named less)
    (λ e. clash _ (both_true _ _ counts (any_from s.marks (defined_in (slice_get x.lines j)) v names marked)) e)

-- a line as a hypothesis
taken_new : (m : List Bool) (j i : ℕ) → is_marked (mark_one m j) i ≡ true → (i ≡ j) ⊎ (is_marked m i ≡ true)
taken_new m j i e = set_new m j i e

marked_turn : (x : Setting) (s : Search) (j : ℕ) → ((u : ℕ) → is_among (read_in (slice_get x.lines j)) u ≡ true → u < length s.marks → is_marked s.marks u ≡ true) → Turn x s (with_taken s j)
marked_turn x s j all = record {
  grows = record { size = refl; below = λ v e. e; prefix = λ n v e. e; queued = λ q. record { holds = q.holds; marked = q.marked; count = q.count } };
  least = λ C n c b. b;
  held = λ h i e u m less. elim (taken_new s.taken j i e) [
    | inl same ↦ all u (ap (λ k. is_among (read_in (slice_get x.lines k)) u) (sym same) ∙ m) less
    | inr old ↦ h i old u m less
  ];
}

hyp_turn : (x : Setting) (s : Search) (j : ℕ) → j < x.place → Turn x s (hyp_taken x.lines x.starts s j)
hyp_turn x s j h =
    let read = read_in (slice_get x.lines j) in
    let new = not (is_marked s.taken j) && list_any (is_marked s.marks) read in
    if_cases (Turn x s) (is_default_at x.lines x.starts j && new) (with_taken (reached_all s read) j) s
    (λ e.
    let p = and_parts (is_default_at x.lines x.starts j) new e in
    let q = and_parts (not (is_marked s.taken j)) (list_any (is_marked s.marks) read) p.1 in
    turn_on (all_turn x s read (λ C n c b v m less. c.hyps j h p.0 (below_any s.marks C read b q.1) v m (omega (arith, less, n))) (all_taken read s))
    (marked_turn x (reached_all s read) j (λ u m less. all_reached read s u m (omega (arith, less, (all_grows read s).size)))))
    (λ e. turn_same x s)

hyp_follows : (x : Setting) (s : Search) (j v u : ℕ) → TakenHold x s → is_default_at x.lines x.starts j ≡ true → is_among (read_in (slice_get x.lines j)) v ≡ true → is_marked s.marks v ≡ true → is_among (read_in (slice_get x.lines j)) u ≡ true → u < length s.marks
    → is_marked (hyp_taken x.lines x.starts s j).marks u ≡ true
hyp_follows x s j v u held counts reads marked named less =
    let read = read_in (slice_get x.lines j) in
    let new = not (is_marked s.taken j) && list_any (is_marked s.marks) read in
    if_cases (λ t. is_marked t.marks u ≡ true) (is_default_at x.lines x.starts j && new) (with_taken (reached_all s read) j) s
    (λ e. all_reached read s u named less)
    (λ e. elim (cases_Bool (is_marked s.taken j)) [
      | inl old ↦ held j old u named less
      | inr fresh ↦ clash (is_default_at x.lines x.starts j && new) (both_true _ _ counts (both_true _ _ (ap not fresh) (any_from s.marks read v reads marked))) e
    ])

-- a line
pub line_turn : (x : Setting) (s : Search) (j : ℕ) → Turn x s (line_taken x.lines x.starts x.place s j)
line_turn x s j =
    if_cases (Turn x s) (nat_lt j x.place) (hyp_taken x.lines x.starts (step_taken x.lines x.starts s j) j) s
    (λ e. let h = ltb-true j x.place e in turn_on (step_turn x s j h) (hyp_turn x (step_taken x.lines x.starts s j) j h)) (λ e. turn_same x s)

-- what a line does for a variable that it names
pub record FollowedAt (x : Setting) (s : Search) (v j : ℕ) : Type 0 where
  pub step : is_default_step x.lines x.starts j ≡ true → is_among (defined_in (slice_get x.lines j)) v ≡ true → (u : ℕ) → is_among (named_in (slice_get x.lines j)) u ≡ true → u < length s.marks → is_marked s.marks u ≡ true
  pub hyp : is_default_at x.lines x.starts j ≡ true → is_among (read_in (slice_get x.lines j)) v ≡ true → (u : ℕ) → is_among (read_in (slice_get x.lines j)) u ≡ true → u < length s.marks → is_marked s.marks u ≡ true

followed_on : {x : Setting} {s t : Search} {v j : ℕ} → Grows s t → FollowedAt x s v j → FollowedAt x t v j
followed_on g f = record {
  step = λ c n u m less. g.below u (f.step c n u m (omega (arith, less, g.size)));
  hyp = λ c n u m less. g.below u (f.hyp c n u m (omega (arith, less, g.size)));
}

line_follows : (x : Setting) (s : Search) (v j : ℕ) → TakenHold x s → is_marked s.marks v ≡ true → j < x.place → FollowedAt x (line_taken x.lines x.starts x.place s j) v j
line_follows x s v j held marked h =
    let t = step_taken x.lines x.starts s j in
    let a = step_turn x s j h in
    let b = hyp_turn x t j h in
    if_cases (λ t. FollowedAt x t v j) (nat_lt j x.place) (hyp_taken x.lines x.starts t j) s
    (λ e. record {
      step = λ c n u m less. b.grows.below u (step_follows x s j v u c n marked m (omega (arith, less, b.grows.size, a.grows.size)));
      hyp = λ c n u m less. hyp_follows x t j v u (a.held held) c n (a.grows.below v marked) m (omega (arith, less, b.grows.size));
    })
    (λ e. clash (nat_lt j x.place) (below j x.place h) e)
  where
    below : (n m : ℕ) → n < m → nat_lt n m ≡ true
    below n m h = grind (arith, nat_tests)

-- several lines
pub lines_turn : (x : Setting) (js : List ℕ) (s : Search) → Turn x s (fold (line_taken x.lines x.starts x.place) s js)
lines_turn x [] s = turn_same x s
lines_turn x (j ∷ js) s = turn_on (line_turn x s j) (lines_turn x js (line_taken x.lines x.starts x.place s j))

lines_follow : (x : Setting) (js : List ℕ) (s : Search) (v j : ℕ) → TakenHold x s → is_marked s.marks v ≡ true → j < x.place → is_among js j ≡ true → FollowedAt x (fold (line_taken x.lines x.starts x.place) s js) v j
lines_follow x [] s v j held marked h e = absurd (cc)
lines_follow x (i ∷ js) s v j held marked h e =
    let t = line_taken x.lines x.starts x.place s i in
    let a = line_turn x s i in
    elim (or_cases (nat_eq i j) (is_among js j) e) [
      | inl here ↦
          followed_on (lines_turn x js t).grows
          (subst (λ k. FollowedAt x (line_taken x.lines x.starts x.place s k) v j) (sym (eqb-true i j here)) (line_follows x s v j held marked h))
      | inr rest ↦ lines_follow x js t v j (a.held held) (a.grows.below v marked) h rest
    ]

-- lists that name each line that names a variable
abbrev pub Touch : Setting → ℕ → List (List ℕ) → Type 0
Touch x count rows = (v j : ℕ) → v < count → is_among (named_in (slice_get x.lines j)) v ≡ true → is_among (get_or rows v []) j ≡ true

-- a variable is followed to all lines
abbrev pub Followed : Setting → Search → ℕ → Type 0
Followed x s v = (j : ℕ) → j < x.place → FollowedAt x s v j

pub variable_turn : (x : Setting) (rows : List (List ℕ)) (s : Search) (v : ℕ) → Turn x s (variable_followed x.lines x.starts x.place rows s v)
variable_turn x rows s v = lines_turn x (get_or rows v []) s

variable_follows : (x : Setting) (rows : List (List ℕ)) (s : Search) (v : ℕ) → Touch x (length s.marks) rows → TakenHold x s → is_marked s.marks v ≡ true → Followed x (variable_followed x.lines x.starts x.place rows s v) v
variable_follows x rows s v touch held marked j h =
    let row = get_or rows v [] in
    let within = marked_within s.marks v marked in
    record {
      step = λ c n u m less. (lines_follow x row s v j held marked h (touch v j within (among_left (defined_in (slice_get x.lines j)) (read_in (slice_get x.lines j)) v n))).step c n u m less;
      hyp = λ c n u m less. (lines_follow x row s v j held marked h (touch v j within (among_right (defined_in (slice_get x.lines j)) (read_in (slice_get x.lines j)) v n))).hyp c n u m less;
    }

-- the first n variables are followed
abbrev pub FollowedTo : Setting → Search → ℕ → Type 0
FollowedTo x s n = (i v : ℕ) → i < n → slice_get s.order i ≡ Some v → Followed x s v

pub next_turn : (x : Setting) (rows : List (List ℕ)) (s : Search) (n : ℕ) → Turn x s (next_followed x.lines x.starts x.place rows s n)
next_turn x rows s n =
    if_cases (Turn x s) (nat_lt n (length s.order)) (variable_followed x.lines x.starts x.place rows s (get_or s.order n 0)) s
    (λ e. variable_turn x rows s (get_or s.order n 0)) (λ e. turn_same x s)

same_item : {a b : ℕ} → Some a ≡ Some b → a ≡ b
same_item e = cc

next_follows : (x : Setting) (rows : List (List ℕ)) (s : Search) (n : ℕ) → Touch x (length s.marks) rows → TakenHold x s → IsQueued s → FollowedTo x s n → FollowedTo x (next_followed x.lines x.starts x.place rows s n) (suc n)
next_follows x rows s n touch held q before =
    if_cases (λ t. (i v : ℕ) → i < suc n → slice_get t.order i ≡ Some v → (j : ℕ) → j < x.place → FollowedAt x t v j)
    (nat_lt n (length s.order)) (variable_followed x.lines x.starts x.place rows s (get_or s.order n 0)) s
    (λ e i v less at j h.
    let within = ltb-true n (length s.order) e in
    let u = get_or s.order n 0 in
    let there : slice_get s.order n ≡ Some u = slice_get-get_or s.order n 0 within in
    let turn = variable_turn x rows s u in
    let item : (k : ℕ) → k < length s.order → (w : ℕ) × (slice_get s.order k ≡ Some w) = λ k l. (get_or s.order k 0, slice_get-get_or s.order k 0 l) in
    elim (cases_eq i n) [
      | inl same ↦
          let is : u ≡ v = same_item (sym (turn.grows.prefix n u there) ∙ ap (slice_get (variable_followed x.lines x.starts x.place rows s u).order) (sym same) ∙ at) in
          subst (λ w. FollowedAt x (variable_followed x.lines x.starts x.place rows s u) w j) is (variable_follows x rows s u touch held (q.marked n u there) j h)
      | inr other ↦
          let old = item i (omega (arith, less, other, within)) in
          let is : old.0 ≡ v = same_item (sym (turn.grows.prefix i old.0 old.1) ∙ at) in
          followed_on turn.grows (before i v (omega (arith, less, other)) (old.1 ∙ ap (λ w. Some w) is) j h)
    ])
    (λ e i v less at j h.
    let inside = slice_get_within s.order i v at in
    elim (cases_lt n (length s.order)) [
      | inl within ↦ clash (nat_lt n (length s.order)) (below n (length s.order) within) e
      | inr end ↦ before i v (omega (arith, inside, end)) at j h
    ])
  where
    below : (n m : ℕ) → n < m → nat_lt n m ≡ true
    below n m h = grind (arith, nat_tests)

-- the whole search
pub record Grown (x : Setting) (s t : Search) (n : ℕ) : Type 0 where
  pub turn : Turn x s t
  pub followed : FollowedTo x t n

pub grown_turns : (x : Setting) (rows : List (List ℕ)) (s : Search) (n : ℕ) → Touch x (length s.marks) rows → TakenHold x s → IsQueued s → Grown x s (grown x.lines x.starts x.place rows s n) n
unfolding grown
grown_turns x rows s zero touch held q = record { turn = turn_same x s; followed = λ i v less at. absurd (omega (arith, less)) }
grown_turns x rows s (suc n) touch held q =
    let t = grown x.lines x.starts x.place rows s n in
    let before = grown_turns x rows s n touch held q in
    record {
      turn = turn_on before.turn (next_turn x rows t n);
      followed = next_follows x rows t n (subst (λ m. Touch x m rows) (sym before.turn.grows.size) touch) (before.turn.held held) (before.turn.grows.queued q) before.followed;
    }

-- as many turns as there are variables are enough
pub record IsFollowed (x : Setting) (s t : Search) : Type 0 where
  pub turn : Turn x s t
  pub all : (v : ℕ) → is_marked t.marks v ≡ true → Followed x t v

pub search_follows : (x : Setting) (rows : List (List ℕ)) (s : Search) (count : ℕ) → length s.marks ≡ count → Touch x (length s.marks) rows → TakenHold x s → IsQueued s → IsFollowed x s (grown x.lines x.starts x.place rows s count)
search_follows x rows s count size touch held q =
    let t = grown x.lines x.starts x.place rows s count in
    let g = grown_turns x rows s count touch held q in
    let late = g.turn.grows.queued q in
    record {
      turn = g.turn;
      all = λ v m.
          let at = among_at t.order v (late.holds v m) in
          g.followed at.0 v (omega (arith, slice_get_within t.order at.0 v at.1, late.count, members_bound t.marks, g.turn.grows.size, size)) at.1;
    }

-- the set at the end obeys each line
pub followed_steps : (x : Setting) (s t : Search) (j : ℕ) → IsFollowed x s t → j < x.place → is_default_step x.lines x.starts j ≡ true → Obeys t.marks (step_rule x.lines j)
followed_steps x s t j f h counts e u m less =
    let found = any_found t.marks (defined_in (slice_get x.lines j)) e in
    (f.all found.0 found.2 j h).step counts found.1 u m less

pub followed_hyps : (x : Setting) (s t : Search) (j : ℕ) → IsFollowed x s t → j < x.place → is_default_at x.lines x.starts j ≡ true → Obeys t.marks (hyp_rule x.lines j)
followed_hyps x s t j f h counts e u m less =
    let found = any_found t.marks (read_in (slice_get x.lines j)) e in
    (f.all found.0 found.2 j h).hyp counts found.1 u m less

-- nothing is taken before the search begins
pub none_held : (x : Setting) (s : Search) (n : ℕ) → s.taken ≡ replicate n false → TakenHold x s
none_held x s n e j m u a less = clash (is_marked s.taken j) m (ap (λ t. is_marked t j) e ∙ none_marked n j)

pub none_queued : (n m : ℕ) → IsQueued (record { marks = replicate n false; order = []; taken = replicate m false })
none_queued n m = record { holds = λ v e. clash (is_marked (replicate n false) v) e (none_marked n v); marked = λ k v e. absurd (cc); count = sym (no_member n) }

pub begun_taken : (vs : List ℕ) (s : Search) → (reached_all s vs).taken ≡ s.taken
begun_taken vs s = all_taken vs s
