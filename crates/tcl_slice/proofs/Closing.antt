-- The set that the search ends with is that of the slice.
use Rattle.std.proofs.Common.{◌≡◌, ◌⊎◌, inl, inr, ℕ, zero, suc, ◌+◌, ◌<◌, ◌≤◌, refl, sym, ◌∙◌, ap, subst, arith, Bool, true, false, List, [], ◌∷◌, ◌++◌, length, map, get_or, set, replicate, Some, nat_eq}
use Rattle.std.specs.List.{slice_get}
use Rattle.std.proofs.lemmas.Bool.{cases_eq, cases_lt, eqb-true}
use Rattle.std.proofs.lemmas.List.{length-set, length-replicate, get_or-set_same, get_or-set_other}
use Rattle.tcl_list.proofs.Booleans.{or_cases}
use Rattle.tcl_lang.specs.declared.pred.Line.{Line}
use Rattle.tcl_lang.specs.Program.{VersionedProgram}
use Rattle.tcl_lang.specs.Defined.{is_among}
use Rattle.tcl_goals.specs.Numbers.{those_below}
use Rattle.tcl_goals.specs.Closure.{Rule, Obeys, IsClosed, IsLeastClosed, closure}
use Rattle.tcl_goals.specs.Defaults.{starts_at, is_default_at}
use Rattle.tcl_goals.specs.Slices.{read_in, named_in, is_default_step, step_rule, hyp_rule, slice_rules, slice_marks}
use Rattle.tcl_goals.proofs.Numbers.{those_none, those_yes, those_no}
use Rattle.tcl_goals.proofs.LeastClosed.{one_least}
use Rattle.tcl_slice.specs.declared.search.Search.{Search}
use Rattle.tcl_slice.specs.Touching.{touched, touched_all, rows_from, rows_of, grown, begun, searched}
use Rattle.tcl_slice.proofs.WholeRuns.{those_hold}
use Rattle.tcl_slice.proofs.Growth.{among_left, among_right, among_later, Setting, ClosedUnder, Touch, IsFollowed, search_follows, followed_steps, followed_hyps, none_held, none_queued, begun_taken, all_grows, all_marks}

-- a list of lists whose row of v has j
abbrev HasRow : List (List ℕ) → ℕ → ℕ → Type 0
HasRow rows v j = is_among (get_or rows v []) j ≡ true

touched_keeps : (rows : List (List ℕ)) (j u v i : ℕ) → HasRow rows v i → HasRow (touched rows j u) v i
touched_keeps rows j u v i h = elim (cases_eq v u) [
  | inl same ↦ elim (cases_lt u (length rows)) [
    | inl within ↦
        ap (λ row. is_among row i) (ap (λ w. get_or (touched rows j u) w []) same ∙ get_or-set_same rows u (get_or rows u [] ++ j ∷ []) [] within)
        ∙ among_left (get_or rows u []) (j ∷ []) i (subst (λ w. HasRow rows w i) same h)
    | inr past ↦ ap (λ rs. is_among (get_or rs v []) i) (set_past rows u (get_or rows u [] ++ j ∷ []) past) ∙ h
  ]
  | inr other ↦ ap (λ row. is_among row i) (get_or-set_other rows u v (get_or rows u [] ++ j ∷ []) [] other) ∙ h
]
  where
    set_past : (rows : List (List ℕ)) (u : ℕ) (row : List ℕ) → length rows ≤ u → set rows u row ≡ rows
    set_past [] u row h = refl
    set_past (r ∷ rows) zero row h = absurd (omega (arith, h))
    set_past (r ∷ rows) (suc u) row h = ap (λ rs. r ∷ rs) (set_past rows u row (omega (arith, h)))

first_of : (j : ℕ) → is_among (j ∷ []) j ≡ true
first_of j = grind arith

touched_here : (rows : List (List ℕ)) (j v : ℕ) → v < length rows → HasRow (touched rows j v) v j
touched_here rows j v h =
    ap (λ row. is_among row j) (get_or-set_same rows v (get_or rows v [] ++ j ∷ []) [] h) ∙ among_right (get_or rows v []) (j ∷ []) j (first_of j)

all_keep : (vs : List ℕ) (rows : List (List ℕ)) (j v i : ℕ) → HasRow rows v i → HasRow (touched_all rows j vs) v i
all_keep [] rows j v i h = h
all_keep (u ∷ vs) rows j v i h = all_keep vs (touched rows j u) j v i (touched_keeps rows j u v i h)

all_here : (vs : List ℕ) (rows : List (List ℕ)) (j v : ℕ) → is_among vs v ≡ true → v < length rows → HasRow (touched_all rows j vs) v j
all_here [] rows j v e h = absurd (cc)
all_here (u ∷ vs) rows j v e h = elim (or_cases (nat_eq u v) (is_among vs v) e) [
  | inl here ↦ all_keep vs (touched rows j u) j v j (subst (λ w. HasRow (touched rows j w) v j) (sym (eqb-true u v here)) (touched_here rows j v h))
  | inr rest ↦ all_here vs (touched rows j u) j v rest (omega (arith, h, length-set rows u (get_or rows u [] ++ j ∷ [])))
]

all_size : (vs : List ℕ) (rows : List (List ℕ)) (j : ℕ) → length (touched_all rows j vs) ≡ length rows
all_size [] rows j = refl
all_size (u ∷ vs) rows j = all_size vs (touched rows j u) j ∙ length-set rows u (get_or rows u [] ++ j ∷ [])

rows_keep : (lines : List Line) (rows : List (List ℕ)) (k v i : ℕ) → HasRow rows v i → HasRow (rows_from rows k lines) v i
unfolding rows_from
rows_keep [] rows k v i h = h
rows_keep (l ∷ lines) rows k v i h = rows_keep lines (touched_all rows k (named_in (Some l))) (k + 1) v i (all_keep (named_in (Some l)) rows k v i h)

rows_here : (lines : List Line) (rows : List (List ℕ)) (k j v : ℕ) → is_among (named_in (slice_get lines j)) v ≡ true → v < length rows → HasRow (rows_from rows k lines) v (k + j)
unfolding rows_from
rows_here [] rows k j v e h = absurd (cc)
rows_here (l ∷ lines) rows k zero v e h =
    let same : k ≡ k + 0 = omega arith in
    subst (λ i. HasRow (rows_from (touched_all rows k (named_in (Some l))) (k + 1) lines) v i) same
    (rows_keep lines (touched_all rows k (named_in (Some l))) (k + 1) v k (all_here (named_in (Some l)) rows k v e h))
rows_here (l ∷ lines) rows k (suc j) v e h =
    let same : (k + 1) + j ≡ k + suc j = omega arith in
    subst (λ i. HasRow (rows_from (touched_all rows k (named_in (Some l))) (k + 1) lines) v i) same
    (rows_here lines (touched_all rows k (named_in (Some l))) (k + 1) j v e (omega (arith, h, all_size (named_in (Some l)) rows k)))

touches : (x : Setting) (count : ℕ) → Touch x count (rows_of count x.lines)
touches x count v j h e =
    let same : 0 + j ≡ j = omega arith in
    subst (λ i. HasRow (rows_of count x.lines) v i) same (rows_here x.lines (replicate count []) 0 j v e (omega (arith, h, length-replicate {A = List ℕ} count [])))

-- the rules of a slice are those of the lines that count
steps_of : (lines : List Line) (ns : List ℕ) (k : ℕ) (r : Rule) → slice_get (map (step_rule lines) ns) k ≡ Some r → (j : ℕ) × (is_among ns j ≡ true) × (step_rule lines j ≡ r)
steps_of lines [] k r e = absurd (cc)
steps_of lines (n ∷ ns) zero r e = (n, first_in n ns, same e)
  where
    same : {a b : Rule} → Some a ≡ Some b → a ≡ b
    same e = cc

    first_in : (n : ℕ) (ns : List ℕ) → is_among (n ∷ ns) n ≡ true
    first_in n ns = among_left (n ∷ []) ns n (first_of n)
steps_of lines (n ∷ ns) (suc k) r e = let found = steps_of lines ns k r e in (found.0, among_later found.0 n ns found.1, found.2)

hyps_of : (lines : List Line) (ns : List ℕ) (k : ℕ) (r : Rule) → slice_get (map (hyp_rule lines) ns) k ≡ Some r → (j : ℕ) × (is_among ns j ≡ true) × (hyp_rule lines j ≡ r)
hyps_of lines [] k r e = absurd (cc)
hyps_of lines (n ∷ ns) zero r e = (n, first_in n ns, same e)
  where
    same : {a b : Rule} → Some a ≡ Some b → a ≡ b
    same e = cc

    first_in : (n : ℕ) (ns : List ℕ) → is_among (n ∷ ns) n ≡ true
    first_in n ns = among_left (n ∷ []) ns n (first_of n)
hyps_of lines (n ∷ ns) (suc k) r e = let found = hyps_of lines ns k r e in (found.0, among_later found.0 n ns found.1, found.2)

parts_of : (xs ys : List Rule) (k : ℕ) (r : Rule) → slice_get (xs ++ ys) k ≡ Some r → ((i : ℕ) × (slice_get xs i ≡ Some r)) ⊎ ((i : ℕ) × (slice_get ys i ≡ Some r))
parts_of [] ys k r e = inr (k, e)
parts_of (x ∷ xs) ys zero r e = inl (0, e)
parts_of (x ∷ xs) ys (suc k) r e = elim (parts_of xs ys k r e) [ inl f ↦ inl (suc f.0, f.1) | inr f ↦ inr f ]

-- members of the numbers below one that pass a test
among_parts : (xs : List ℕ) (n v : ℕ) → is_among (xs ++ n ∷ []) v ≡ true → (is_among xs v ≡ true) ⊎ (n ≡ v)
among_parts [] n v e = elim (or_cases (nat_eq n v) false e) [ inl here ↦ inr (eqb-true n v here) | inr none ↦ absurd (cc) ]
among_parts (x ∷ xs) n v e = elim (or_cases (nat_eq x v) (is_among (xs ++ n ∷ []) v) e) [
  | inl here ↦ inl (subst (λ y. is_among (x ∷ xs) y ≡ true) (eqb-true x v here) (among_left (x ∷ []) xs x (first_of x)))
  | inr rest ↦ elim (among_parts xs n v rest) [ inl old ↦ inl (among_later v x xs old) | inr new ↦ inr new ]
]

those_pass : (test : ℕ → Bool) (n v : ℕ) → is_among (those_below test n) v ≡ true → (v < n) × (test v ≡ true)
those_pass test zero v e = no_number (sym (ap (λ xs. is_among xs v) (those_none test)) ∙ e)
  where
    no_number : {P : Type 0} → is_among [] v ≡ true → P
    no_number e = absurd (cc)
those_pass test (suc n) v e = by (test n) refl (λ f. those_pass test n v f)
  where
    by : (b : Bool) → test n ≡ b → (is_among (those_below test n) v ≡ true → (v < n) × (test v ≡ true)) → (v < suc n) × (test v ≡ true)
    by true t rest = elim (among_parts (those_below test n) n v (sym (ap (λ xs. is_among xs v) (those_yes test n t)) ∙ e)) [
      | inl old ↦ let r = rest old in (omega (arith, r.0), r.1)
      | inr new ↦ (omega (arith, new), subst (λ w. test w ≡ true) new t)
    ]
    by false t rest = let r = rest (sym (ap (λ xs. is_among xs v) (those_no test n t)) ∙ e) in (omega (arith, r.0), r.1)

rule_at : (rules : List Rule) (k : ℕ) (a b : Rule) (C : List Bool) → a ≡ b → Obeys C a → Obeys C b
rule_at rules k a b C e o = subst (λ r. Obeys C r) e o

-- a set is closed under the rules where it is under the lines, and the other way round
closed_by : (x : Setting) (C : List Bool) → ClosedUnder x C → IsClosed (slice_rules x.lines x.starts x.place) C
closed_by x C c k r at =
    let steps = those_below (is_default_step x.lines x.starts) x.place in
    let hyps = those_below (is_default_at x.lines x.starts) x.place in
    elim (parts_of (map (step_rule x.lines) steps) (map (hyp_rule x.lines) hyps) k r at) [
      | inl f ↦
          let found = steps_of x.lines steps f.0 r f.1 in
          let pass = those_pass (is_default_step x.lines x.starts) x.place found.0 found.1 in
          subst (λ q. Obeys C q) found.2 (c.steps found.0 pass.0 pass.1)
      | inr f ↦
          let found = hyps_of x.lines hyps f.0 r f.1 in
          let pass = those_pass (is_default_at x.lines x.starts) x.place found.0 found.1 in
          subst (λ q. Obeys C q) found.2 (c.hyps found.0 pass.0 pass.1)
    ]

mapped_at : (f : ℕ → Rule) (ns : List ℕ) (i j : ℕ) → slice_get ns i ≡ Some j → slice_get (map f ns) i ≡ Some (f j)
mapped_at f [] i j e = absurd (cc)
mapped_at f (n ∷ ns) zero j e = ap (λ m. Some (f m)) (same e)
  where
    same : {a b : ℕ} → Some a ≡ Some b → a ≡ b
    same e = cc
mapped_at f (n ∷ ns) (suc i) j e = mapped_at f ns i j e

left_at : (xs ys : List Rule) (i : ℕ) (r : Rule) → slice_get xs i ≡ Some r → slice_get (xs ++ ys) i ≡ Some r
left_at [] ys i r e = absurd (cc)
left_at (x ∷ xs) ys zero r e = e
left_at (x ∷ xs) ys (suc i) r e = left_at xs ys i r e

right_at : (xs ys : List Rule) (i : ℕ) (r : Rule) → slice_get ys i ≡ Some r → (k : ℕ) × (slice_get (xs ++ ys) k ≡ Some r)
right_at [] ys i r e = (i, e)
right_at (x ∷ xs) ys i r e = let found = right_at xs ys i r e in (suc found.0, found.1)

by_closed : (x : Setting) (C : List Bool) → IsClosed (slice_rules x.lines x.starts x.place) C → ClosedUnder x C
by_closed x C c =
    let steps = those_below (is_default_step x.lines x.starts) x.place in
    let hyps = those_below (is_default_at x.lines x.starts) x.place in
    record {
      steps = λ j h counts.
          let at = those_hold (is_default_step x.lines x.starts) x.place j h counts in
          c at.0 (step_rule x.lines j) (left_at (map (step_rule x.lines) steps) (map (hyp_rule x.lines) hyps) at.0 (step_rule x.lines j) (mapped_at (step_rule x.lines) steps at.0 j at.1));
      hyps = λ j h counts.
          let at = those_hold (is_default_at x.lines x.starts) x.place j h counts in
          let there = right_at (map (step_rule x.lines) steps) (map (hyp_rule x.lines) hyps) at.0 (hyp_rule x.lines j) (mapped_at (hyp_rule x.lines) hyps at.0 j at.1) in
          c there.0 (hyp_rule x.lines j) there.1;
    }

-- so the search ends with the least closed set
least_by : (x : Setting) (s t : Search) → IsFollowed x s t → IsLeastClosed (slice_rules x.lines x.starts x.place) s.marks t.marks
least_by x s t f = record {
  count = f.turn.grows.size;
  holds = f.turn.grows.below;
  closed = closed_by x t.marks (record { steps = λ j h c. followed_steps x s t j f h c; hyps = λ j h c. followed_hyps x s t j f h c });
  least = λ C n b c. f.turn.least C n (by_closed x C c) b;
}

pub searched_marks : (p : VersionedProgram) (place : ℕ) → (searched p (starts_at p.lines place) place).marks ≡ slice_marks p place
unfolding slice_marks
searched_marks p place =
    let starts = starts_at p.lines place in
    let x : Setting = record { lines = p.lines; starts = starts; place = place } in
    let count = length p.variables in
    let none : Search = record { marks = replicate count false; order = []; taken = replicate (length p.lines) false } in
    let reads = read_in (slice_get p.lines place) in
    let s = begun p place in
    let grows = all_grows reads none in
    let size : length s.marks ≡ count = grows.size ∙ length-replicate count false in
    let f = search_follows x (rows_of count p.lines) s count size (subst (λ n. Touch x n (rows_of count p.lines)) (sym size) (touches x count))
    (none_held x s (length p.lines) (begun_taken reads none)) (grows.queued (none_queued count (length p.lines))) in
    one_least (slice_rules p.lines starts place) s.marks (grown p.lines starts place (rows_of count p.lines) s count).marks
    (least_by x s (grown p.lines starts place (rows_of count p.lines) s count) f)
    ∙ ap (closure (slice_rules p.lines starts place)) (all_marks reads none)
