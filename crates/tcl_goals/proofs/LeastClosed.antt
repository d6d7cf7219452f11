-- After as many rounds as there are numbers nothing is added, and what was added is in every closed set.
use Rattle.std.proofs.Common.{◌≡◌, ◌⊎◌, inl, inr, ℕ, zero, suc, ◌+◌, ◌<◌, ◌≤◌, refl, sym, ◌∙◌, ap, subst, arith, Bool, true, false, List, [], ◌∷◌, length, set, Some, nat_eq, if◌then◌else◌}
use Rattle.std.specs.List.{list_any}
use Rattle.std.proofs.lemmas.Bool.{cases_eq, cases_lt, eqb-true}
use Rattle.std.proofs.lemmas.List.{length-set, get_or-set_same, get_or-set_other, get_or_past}
use Rattle.tcl_list.proofs.Booleans.{or_cases, or_left, or_right}
use Rattle.tcl_goals.specs.Closure.{Rule, is_marked, mark_all, apply, round, rounds, closure, Below, Obeys, IsClosed, IsLeastClosed}

false_true : false ≡ true → ⊥
false_true e = cc

marked_within : (m : List Bool) (v : ℕ) → is_marked m v ≡ true → v < length m
marked_within m v e = elim (cases_lt v (length m)) [
  | inl h ↦ h
  | inr h ↦ absurd (false_true (sym (get_or_past m v false h) ∙ e))
]

-- one number more
set_below : (m : List Bool) (v : ℕ) → Below m (set m v true)
set_below m v u e = elim (cases_eq u v) [
  | inl same ↦
      let within : v < length m = omega (arith, marked_within m u e) in
      ap (is_marked (set m v true)) same ∙ get_or-set_same m v true false within
  | inr other ↦ get_or-set_other m v u true false other ∙ e
]

set_least : (m C : List Bool) (v : ℕ) → Below m C → (v < length m → is_marked C v ≡ true) → Below (set m v true) C
set_least m C v h k u e = elim (cases_eq u v) [
  | inl same ↦
      let within : v < length m = omega (arith, marked_within (set m v true) u e, length-set m v true) in
      ap (is_marked C) same ∙ k within
  | inr other ↦ h u (sym (get_or-set_other m v u true false other) ∙ e)
]

-- several numbers more
mark_length : (vs : List ℕ) (m : List Bool) → length (mark_all m vs) ≡ length m
mark_length [] m = refl
mark_length (v ∷ vs) m = mark_length vs (set m v true) ∙ length-set m v true

mark_below : (vs : List ℕ) (m : List Bool) → Below m (mark_all m vs)
mark_below [] m u e = e
mark_below (v ∷ vs) m u e = mark_below vs (set m v true) u (set_below m v u e)

mark_marks : (vs : List ℕ) (m : List Bool) (v : ℕ) → list_any (λ u. nat_eq u v) vs ≡ true → v < length m → is_marked (mark_all m vs) v ≡ true
mark_marks [] m v e h = absurd (false_true e)
mark_marks (w ∷ vs) m v e h = elim (or_cases (nat_eq w v) (list_any (λ u. nat_eq u v) vs) e) [
  | inl same ↦
      let is : v ≡ w = sym (eqb-true w v same) in
      mark_below vs (set m w true) v (ap (is_marked (set m w true)) is ∙ get_or-set_same m w true false (omega arith))
  | inr others ↦ mark_marks vs (set m w true) v others (omega (arith, length-set m w true))
]

mark_least : (vs : List ℕ) (m C : List Bool) → Below m C → ((v : ℕ) → list_any (λ u. nat_eq u v) vs ≡ true → v < length m → is_marked C v ≡ true) → Below (mark_all m vs) C
mark_least [] m C h k = h
mark_least (w ∷ vs) m C h k =
    mark_least vs (set m w true) C
    (set_least m C w h (λ within. k w (or_left (nat_eq w w) (list_any (λ u. nat_eq u w) vs) (same w)) within))
    (λ v e within. k v (or_right (nat_eq w v) (list_any (λ u. nat_eq u v) vs) e) (omega (arith, within, length-set m w true)))
  where
    same : (w : ℕ) → nat_eq w w ≡ true
    same w = grind arith

-- one rule
if_cases : {X : Type 0} (P : X → Type 0) (b : Bool) (x y : X) → (b ≡ true → P x) → (b ≡ false → P y) → P (if b then x else y)
if_cases P true x y f g = f refl
if_cases P false x y f g = g refl

apply_length : (m : List Bool) (r : Rule) → length (apply m r) ≡ length m
apply_length m r = if_cases (λ n. length n ≡ length m) (list_any (is_marked m) r.when) (mark_all m r.adds) m (λ e. mark_length r.adds m) (λ e. refl)

apply_below : (m : List Bool) (r : Rule) → Below m (apply m r)
apply_below m r = if_cases (Below m) (list_any (is_marked m) r.when) (mark_all m r.adds) m (λ e. mark_below r.adds m) (λ e v h. h)

any_below : (m C : List Bool) → Below m C → (vs : List ℕ) → list_any (is_marked m) vs ≡ true → list_any (is_marked C) vs ≡ true
any_below m C h [] e = e
any_below m C h (v ∷ vs) e = elim (or_cases (is_marked m v) (list_any (is_marked m) vs) e) [
  | inl here ↦ or_left (is_marked C v) (list_any (is_marked C) vs) (h v here)
  | inr there ↦ or_right (is_marked C v) (list_any (is_marked C) vs) (any_below m C h vs there)
]

apply_least : (m C : List Bool) (r : Rule) → length m ≡ length C → Below m C → Obeys C r → Below (apply m r) C
apply_least m C r same h obeys =
    if_cases (λ n. Below n C) (list_any (is_marked m) r.when) (mark_all m r.adds) m
    (λ e. mark_least r.adds m C h (λ v a within. obeys (any_below m C h r.when e) v a (omega arith))) (λ e. h)

-- all rules once, and n times
round_length : (rules : List Rule) (m : List Bool) → length (round rules m) ≡ length m
round_length [] m = refl
round_length (r ∷ rules) m = round_length rules (apply m r) ∙ apply_length m r

round_below : (rules : List Rule) (m : List Bool) → Below m (round rules m)
round_below [] m v e = e
round_below (r ∷ rules) m v e = round_below rules (apply m r) v (apply_below m r v e)

round_least : (rules : List Rule) (m C : List Bool) → length m ≡ length C → Below m C → IsClosed rules C → Below (round rules m) C
round_least [] m C same h closed = h
round_least (r ∷ rules) m C same h closed =
    round_least rules (apply m r) C (apply_length m r ∙ same) (apply_least m C r same h (closed 0 r refl)) (λ k s e. closed (suc k) s e)

rounds_length : (n : ℕ) (rules : List Rule) (m : List Bool) → length (rounds n rules m) ≡ length m
rounds_length zero rules m = refl
rounds_length (suc n) rules m = rounds_length n rules (round rules m) ∙ round_length rules m

rounds_below : (n : ℕ) (rules : List Rule) (m : List Bool) → Below m (rounds n rules m)
rounds_below zero rules m v e = e
rounds_below (suc n) rules m v e = rounds_below n rules (round rules m) v (round_below rules m v e)

rounds_least : (n : ℕ) (rules : List Rule) (m C : List Bool) → length m ≡ length C → Below m C → IsClosed rules C → Below (rounds n rules m) C
rounds_least zero rules m C same h closed = h
rounds_least (suc n) rules m C same h closed =
    rounds_least n rules (round rules m) C (round_length rules m ∙ same) (round_least rules m C same h closed) closed

-- a set that holds another of the same length is the same or has more members
abbrev members : List Bool → ℕ
members [] = 0
members (true ∷ m) = suc (members m)
members (false ∷ m) = members m

members_bound : (m : List Bool) → members m ≤ length m
members_bound [] = omega arith
members_bound (true ∷ m) = omega (arith, members_bound m)
members_bound (false ∷ m) = omega (arith, members_bound m)

same_or_more : (m n : List Bool) → length m ≡ length n → Below m n → (m ≡ n) ⊎ (members m < members n)
same_or_more [] [] c h = inl refl
same_or_more [] (b ∷ n) c h = absurd (omega arith)
same_or_more (b ∷ m) [] c h = absurd (omega arith)
same_or_more (true ∷ m) (true ∷ n) c h = elim (same_or_more m n (omega arith) (λ v e. h (suc v) e)) [
  | inl same ↦ inl (ap (λ x. true ∷ x) same)
  | inr more ↦ inr (omega (arith, more))
]
same_or_more (true ∷ m) (false ∷ n) c h = absurd (false_true (h 0 refl))
same_or_more (false ∷ m) (true ∷ n) c h = elim (same_or_more m n (omega arith) (λ v e. h (suc v) e)) [
  | inl same ↦ inr (omega (arith, ap members same))
  | inr more ↦ inr (omega (arith, more))
]
same_or_more (false ∷ m) (false ∷ n) c h = elim (same_or_more m n (omega arith) (λ v e. h (suc v) e)) [
  | inl same ↦ inl (ap (λ x. false ∷ x) same)
  | inr more ↦ inr more
]

same_sets : (m n : List Bool) → length m ≡ length n → Below m n → Below n m → m ≡ n
same_sets m n c h k = elim (same_or_more m n c h) [
  | inl same ↦ same
  | inr more ↦ elim (same_or_more n m (sym c) k) [
    | inl same ↦ sym same
    | inr less ↦ absurd (omega (arith, more, less))
  ]
]

-- where a round adds nothing, no round does
stays : (rules : List Rule) (m : List Bool) → round rules m ≡ m → (n : ℕ) → rounds n rules m ≡ m
stays rules m e zero = refl
stays rules m e (suc n) = ap (rounds n rules) e ∙ stays rules m e n

settles : (n : ℕ) (rules : List Rule) (m : List Bool) → length m ≤ n + members m → round rules (rounds n rules m) ≡ rounds n rules m
settles zero rules m h = elim (same_or_more m (round rules m) (sym (round_length rules m)) (round_below rules m)) [
  | inl same ↦ sym same
  | inr more ↦ absurd (omega (arith, more, members_bound (round rules m), round_length rules m))
]
settles (suc n) rules m h = elim (same_or_more m (round rules m) (sym (round_length rules m)) (round_below rules m)) [
  | inl same ↦ ap (round rules) (stays rules m (sym same) (suc n)) ∙ sym same ∙ sym (stays rules m (sym same) (suc n))
  | inr more ↦ settles n rules (round rules m) (omega (arith, more, round_length rules m))
]

-- a set to which a round adds nothing is closed
settled_first : (r : Rule) (rules : List Rule) (m : List Bool) → round (r ∷ rules) m ≡ m → apply m r ≡ m
settled_first r rules m e =
    let back : Below (apply m r) m = λ v h. subst (λ (n : List Bool). is_marked n v ≡ true) e (round_below rules (apply m r) v h) in
    same_sets (apply m r) m (apply_length m r) back (apply_below m r)

obeyed : (m : List Bool) (r : Rule) → apply m r ≡ m → Obeys m r
obeyed m r e w v a within =
    subst (λ (n : List Bool). is_marked n v ≡ true) (sym (if_true (list_any (is_marked m) r.when) (mark_all m r.adds) m w) ∙ e) (mark_marks r.adds m v a within)
  where
    if_true : (b : Bool) (x y : List Bool) → b ≡ true → (if b then x else y) ≡ x
    if_true true x y e = refl
    if_true false x y e = absurd (false_true e)

settled_closed : (rules : List Rule) (m : List Bool) → round rules m ≡ m → IsClosed rules m
settled_closed [] m e zero r at = absurd (cc)
settled_closed [] m e (suc k) r at = absurd (cc)
settled_closed (s ∷ rules) m e zero r at =
    subst (λ (q : Rule). Obeys m q) (some_same s r at) (obeyed m s (settled_first s rules m e))
  where
    some_same : (s r : Rule) → Some s ≡ Some r → s ≡ r
    some_same s r e = cc
settled_closed (s ∷ rules) m e (suc k) r at =
    settled_closed rules m (ap (round rules) (sym (settled_first s rules m e)) ∙ e) k r at

pub closure_least : (rules : List Rule) (start : List Bool) → IsLeastClosed rules start (closure rules start)
unfolding closure
closure_least rules start = record {
  count = rounds_length (length start) rules start;
  holds = rounds_below (length start) rules start;
  closed = settled_closed rules (rounds (length start) rules start) (settles (length start) rules start (omega arith));
  least = λ others same h closed. rounds_least (length start) rules start others (sym same) h closed;
}

pub one_least : (rules : List Rule) (start marks : List Bool) → IsLeastClosed rules start marks → marks ≡ closure rules start
one_least rules start marks l =
    let c = closure_least rules start in
    same_sets marks (closure rules start) (l.count ∙ sym c.count) (l.least (closure rules start) c.count c.holds c.closed) (c.least marks l.count l.holds l.closed)
