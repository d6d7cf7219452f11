-- The facts of both routes of a goal are in order, and so is that of a piece, with its cube.
use Rattle.std.proofs.Common.{◌≡◌, ◌⊎◌, inl, inr, ℕ, zero, suc, ◌<◌, ◌≤◌, refl, sym, ◌∙◌, ap, subst, arith, nat_eq, eqb-true, Bool, true, false, not, ◌&&◌, ◌||◌, List, [], ◌∷◌, ◌++◌, length, map, take, flat_map, Option, Some, None}
use Rattle.std.specs.List.{slice_get, list_all, list_any}
use Rattle.std.proofs.lemmas.Bool.{and_parts, and_from, lt-ltb}
use Rattle.tcl_list.proofs.Booleans.{or_cases, or_left, or_right, cond_cases}
use Rattle.tcl_lang.specs.declared.pred.Line.{Line}
use Rattle.tcl_lang.specs.declared.variable.Variable.{Variable}
use Rattle.tcl_lang.specs.Program.{VersionedProgram}
use Rattle.tcl_lang.specs.Line.{is_hypothesis}
use Rattle.tcl_lang.specs.Goal.{passes}
use Rattle.tcl_lang.specs.Names.{used_names, defined_names}
use Rattle.tcl_lang.specs.Defined.{is_among, is_defined_before}
use Rattle.tcl_lang.specs.Form.{IsWellFormed}
use Rattle.tcl_lang.proofs.FormEnds.{reads_before}
use Rattle.tcl_goals.specs.declared.fact.Bit.{Bit}
use Rattle.tcl_goals.specs.declared.fact.BitLit.{BitLit}
use Rattle.tcl_goals.specs.declared.fact.Key.{Key}
use Rattle.tcl_goals.specs.declared.fact.Hyp.{Hyp}
use Rattle.tcl_goals.specs.declared.fact.Hyp.TheVariants as hyp
use Rattle.tcl_goals.specs.declared.fact.Claim.TheVariants as claim
use Rattle.tcl_goals.specs.declared.fact.Fact.{Fact}
use Rattle.tcl_goals.specs.declared.lemma.Numbered.{Numbered}
use Rattle.tcl_goals.specs.declared.cuts.Starts.{Starts}
use Rattle.tcl_goals.specs.declared.piece.Route.{Route}
use Rattle.tcl_goals.specs.declared.piece.Route.TheVariants as route
use Rattle.tcl_goals.specs.declared.piece.Piece.{Piece}
use Rattle.tcl_goals.specs.Numbers.{those_below, is_above, rise_after}
use Rattle.tcl_goals.specs.Places.{goal_place, has_goal}
use Rattle.std.proofs.lemmas.Bool.Decides.{nat_tests}
use Rattle.tcl_goals.specs.Keys.{key_less, line_key, is_key_above, hyps_after, claim_place}
use Rattle.tcl_goals.specs.Order.{InOrder, has_hyp, is_before, is_step_before, is_bit_before, has_bit, same_bit, bits_differ}
use Rattle.tcl_goals.specs.Defaults.{is_default, is_default_at, line_hyps}
use Rattle.tcl_goals.specs.Slices.{read_in, defined_in, named_in, is_hypothesis_at, is_step_at, is_default_step, is_sliced_hyp, is_sliced_step, whole_fact, cut_fact, route_fact}
use Rattle.tcl_goals.specs.Free.{hyp_variables, fact_variables, is_free, free_variables, width_in, bits_down, bits_of, free_bits}
use Rattle.tcl_goals.specs.Plans.{IsPiece, bit_at, piece_fact}

-- rising numbers from one up to another that pass a test
abbrev Listed : (ℕ → Bool) → ℕ → ℕ → List ℕ → Type 0
Listed test n end [] = Unit {0}
Listed test n end (k ∷ ks) = (test k ≡ true) × (n ≤ k) × (k < end) × Listed test (suc k) end ks

listed_longer : (test : ℕ → Bool) (n end : ℕ) (ks : List ℕ) → Listed test n end ks → Listed test n (suc end) ks
listed_longer test n end [] a = tt
listed_longer test n end (k ∷ ks) a = (a.0, a.1, omega (arith, a.2), listed_longer test (suc k) end ks a.3)

listed_last : (test : ℕ → Bool) (n k : ℕ) (ks : List ℕ) → n ≤ k → test k ≡ true → Listed test n k ks → Listed test n (suc k) (ks ++ k ∷ [])
listed_last test n k [] h e a = (e, h, omega arith, tt)
listed_last test n k (j ∷ ks) h e a =
    let less : suc j ≤ k = omega (arith, a.2) in
    (a.0, a.1, omega (arith, a.2), listed_last test (suc j) k ks less e a.3)

those_listed : (test : ℕ → Bool) (n : ℕ) → Listed test 0 n (those_below test n)
unfolding those_below
those_listed test zero = tt
those_listed test (suc n) =
    cond_cases (Listed test 0 (suc n)) (test n) (those_below test n ++ n ∷ []) (those_below test n)
    (λ e. listed_last test 0 n (those_below test n) (omega arith) e (those_listed test n))
    (λ e. listed_longer test 0 n (those_below test n) (those_listed test n))

-- what each of them passes
listed_all : (test q : ℕ → Bool) (n end : ℕ) → ((k : ℕ) → k < end → test k ≡ true → q k ≡ true) → (ks : List ℕ) → Listed test n end ks → list_all q ks ≡ true
listed_all test q n end h [] a = refl
listed_all test q n end h (k ∷ ks) a = and_from (q k) (list_all q ks) (h k a.2 a.0) (listed_all test q (suc k) end h ks a.3)

listed_hyps : (test : ℕ → Bool) (q : Hyp → Bool) (n end : ℕ) → ((k : ℕ) → k < end → test k ≡ true → q (hyp.Line k) ≡ true) → (ks : List ℕ) → Listed test n end ks → list_all q (line_hyps ks) ≡ true
listed_hyps test q n end h [] a = refl
listed_hyps test q n end h (k ∷ ks) a = and_from (q (hyp.Line k)) (list_all q (line_hyps ks)) (h k a.2 a.0) (listed_hyps test q (suc k) end h ks a.3)

-- they rise, as numbers and as keys
listed_rise : (test : ℕ → Bool) (n end : ℕ) (last : Option ℕ) (ks : List ℕ) → ((k : ℕ) → n ≤ k → is_above last k ≡ true) → Listed test n end ks → rise_after last ks ≡ true
listed_rise test n end last [] h a = refl
listed_rise test n end last (k ∷ ks) h a =
    and_from (is_above last k) (rise_after (Some k) ks) (h k a.1) (listed_rise test (suc k) end (Some k) ks (λ j less. lt-ltb k j less) a.3)

less_key : (j k : ℕ) → j < k → key_less (line_key j) (line_key k) ≡ true
less_key j k h = or_left _ _ (lt-ltb j k h)

listed_keys : (lines : List Line) (lemmas : List Numbered) (test : ℕ → Bool) (n end : ℕ) (last : Option Key) (ks : List ℕ) → ((k : ℕ) → n ≤ k → is_key_above last (line_key k) ≡ true) → Listed test n end ks → hyps_after lines lemmas last (line_hyps ks) ≡ true
listed_keys lines lemmas test n end last [] h a = refl
listed_keys lines lemmas test n end last (k ∷ ks) h a =
    and_from _ _ (h k a.1) (listed_keys lines lemmas test (suc k) end (Some (line_key k)) ks (λ j less. less_key k j less) a.3)

-- a fact of places that pass such tests is in order
route_in_order : (p : VersionedProgram) (lemmas : List Numbered) (i : ℕ) (h u : ℕ → Bool) → has_goal p.lines i ≡ true → ((j : ℕ) → h j ≡ true → is_hypothesis_at p.lines j ≡ true) → ((j : ℕ) → u j ≡ true → is_step_at p.lines j ≡ true) → InOrder p lemmas (record { claim = claim.Goal i; hyps = line_hyps (those_below h (goal_place p.lines i)); cube = []; uses = those_below u (goal_place p.lines i) })
route_in_order p lemmas i h u exists hyps steps =
    let k = goal_place p.lines i in
    let hs = those_listed h k in
    let us = those_listed u k in
    record {
      claim = exists;
      hyps = listed_hyps h (has_hyp p.lines lemmas) 0 k (λ j less e. hyps j e) (those_below h k) hs;
      order = and_from _ _ (listed_keys p.lines lemmas h 0 k None (those_below h k) (λ j less. refl) hs)
          (listed_hyps h (is_before p.lines lemmas (claim.Goal i)) 0 k (λ j less e. less_key j k less) (those_below h k) hs);
      uses = and_from _ _ (listed_rise u 0 k None (those_below u k) (λ j less. refl) us)
          (listed_all u (is_step_before p.lines k) 0 k (λ j less e. and_from _ _ (steps j e) (lt-ltb j k less)) (those_below u k) us);
      cube = refl;
    }

-- the tests of the cut route are narrower
default_hyp : (s : Starts) (j : ℕ) (o : Option Line) → passes (is_default s j) o ≡ true → passes is_hypothesis o ≡ true
default_hyp s j None e = absurd (cc)
default_hyp s j (Some l) e = let parts = and_parts (is_hypothesis l) _ e in parts.0

sliced_hyp : (lines : List Line) (s : Starts) (marks : List Bool) (j : ℕ) → is_sliced_hyp lines s marks j ≡ true → is_hypothesis_at lines j ≡ true
sliced_hyp lines s marks j e =
    let parts = and_parts (is_default_at lines s j) _ e in
    default_hyp s j (slice_get lines j) parts.0

sliced_step : (lines : List Line) (s : Starts) (marks : List Bool) (j : ℕ) → is_sliced_step lines s marks j ≡ true → is_step_at lines j ≡ true
sliced_step lines s marks j e =
    let parts = and_parts (is_default_step lines s j) _ e in
    let others = and_parts (is_step_at lines j) _ parts.0 in
    others.0

pub whole_in_order : (p : VersionedProgram) (lemmas : List Numbered) (i : ℕ) → has_goal p.lines i ≡ true → InOrder p lemmas (whole_fact p i)
unfolding whole_fact
whole_in_order p lemmas i exists =
    route_in_order p lemmas i (is_hypothesis_at p.lines) (is_step_at p.lines) exists (λ j e. e) (λ j e. e)

pub cut_in_order : (p : VersionedProgram) (lemmas : List Numbered) (i : ℕ) → has_goal p.lines i ≡ true → InOrder p lemmas (cut_fact p i)
unfolding cut_fact
cut_in_order p lemmas i exists =
    route_in_order p lemmas i _ _ exists (λ j e. sliced_hyp p.lines _ _ j e) (λ j e. sliced_step p.lines _ _ j e)

pub route_order : (p : VersionedProgram) (lemmas : List Numbered) (i : ℕ) (r : Route) → has_goal p.lines i ≡ true → InOrder p lemmas (route_fact p i r)
route_order p lemmas i route.Cut exists = cut_in_order p lemmas i exists
route_order p lemmas i route.Whole exists = whole_in_order p lemmas i exists

-- what is defined by a line before a place
any_at : {X : Type 0} (q : X → Bool) (xs : List X) (k n : ℕ) (x : X) → slice_get xs k ≡ Some x → k < n → q x ≡ true → list_any q (take n xs) ≡ true
any_at q [] k n x at h e = absurd (none_some at)
  where
    none_some : {X : Type 0} {x : X} → None ≡ Some x → ⊥
    none_some f = cc
any_at q (y ∷ xs) k zero x at h e = absurd (omega arith)
any_at q (y ∷ xs) zero (suc n) x at h e = or_left (q y) _ (ap q (some_same y x at) ∙ e)
  where
    some_same : {X : Type 0} (y x : X) → Some y ≡ Some x → y ≡ x
    some_same y x f = cc
any_at q (y ∷ xs) (suc k) (suc n) x at h e = or_right (q y) _ (any_at q xs k n x at (omega arith) e)

any_longer : {X : Type 0} (q : X → Bool) (xs : List X) (k n : ℕ) → k ≤ n → list_any q (take k xs) ≡ true → list_any q (take n xs) ≡ true
any_longer q [] zero n h e = absurd (cc)
any_longer q [] (suc k) n h e = absurd (cc)
any_longer q (y ∷ xs) zero n h e = absurd (cc)
any_longer q (y ∷ xs) (suc k) zero h e = absurd (omega arith)
any_longer q (y ∷ xs) (suc k) (suc n) h e = elim (or_cases (q y) (list_any q (take k xs)) e) [
  | inl here ↦ or_left (q y) _ here
  | inr there ↦ or_right (q y) _ (any_longer q xs k n (omega arith) there)
]

-- all of a list, of two lists, of a front
all_mapped : {X : Type 0} (q r : X → Bool) → ((x : X) → q x ≡ true → r x ≡ true) → (xs : List X) → list_all q xs ≡ true → list_all r xs ≡ true
all_mapped q r h [] e = refl
all_mapped q r h (x ∷ xs) e =
    let parts = and_parts (q x) (list_all q xs) e in
    and_from (r x) (list_all r xs) (h x parts.0) (all_mapped q r h xs parts.1)

all_both : {X : Type 0} (q : X → Bool) (xs ys : List X) → list_all q xs ≡ true → list_all q ys ≡ true → list_all q (xs ++ ys) ≡ true
all_both q [] ys e f = f
all_both q (x ∷ xs) ys e f =
    let parts = and_parts (q x) (list_all q xs) e in
    and_from (q x) (list_all q (xs ++ ys)) parts.0 (all_both q xs ys parts.1 f)

all_front : {X : Type 0} (q : X → Bool) (n : ℕ) (xs : List X) → list_all q xs ≡ true → list_all q (take n xs) ≡ true
all_front q zero xs e = refl
all_front q (suc n) [] e = refl
all_front q (suc n) (x ∷ xs) e =
    let parts = and_parts (q x) (list_all q xs) e in
    and_from (q x) (list_all q (take n xs)) parts.0 (all_front q n xs parts.1)

all_flat : {X Y : Type 0} (q : Y → Bool) (f : X → List Y) (xs : List X) → list_all (λ x. list_all q (f x)) xs ≡ true → list_all q (flat_map f xs) ≡ true
all_flat q f [] e = refl
all_flat q f (x ∷ xs) e =
    let parts = and_parts (list_all q (f x)) (list_all (λ y. list_all q (f y)) xs) e in
    all_both q (f x) (flat_map f xs) parts.0 (all_flat q f xs parts.1)

all_among : (q : ℕ → Bool) (vs : List ℕ) (v : ℕ) → list_all q vs ≡ true → is_among vs v ≡ true → q v ≡ true
all_among q [] v e h = absurd (cc)
all_among q (u ∷ vs) v e h =
    let parts = and_parts (q u) (list_all q vs) e in
    elim (or_cases (nat_eq u v) (is_among vs v) h) [
      | inl same ↦ subst (λ w. q w ≡ true) (eqb-true u v same) parts.0
      | inr others ↦ all_among q vs v parts.1 others
    ]

-- each number of a list is among them
all_own : (vs : List ℕ) → list_all (is_among vs) vs ≡ true
all_own [] = refl
all_own (v ∷ vs) =
    and_from (is_among (v ∷ vs) v) (list_all (is_among (v ∷ vs)) vs) (or_left (nat_eq v v) (is_among vs v) (grind arith))
    (all_mapped (is_among vs) (is_among (v ∷ vs)) (λ u e. or_right (nat_eq v u) (is_among vs u) e) vs (all_own vs))

-- the names of a line before a place are defined before the place
reads_defined : (p : VersionedProgram) (k place : ℕ) → IsWellFormed p → k ≤ place → (o : Option Line) → slice_get p.lines k ≡ o → list_all (is_defined_before p.lines place) (read_in o) ≡ true
reads_defined p k place w h None at = refl
reads_defined p k place w h (Some l) at =
    all_mapped (is_defined_before p.lines k) (is_defined_before p.lines place) (λ v e. any_longer (λ m. is_among (defined_names m) v) p.lines k place h e)
    (used_names l) (reads_before p k l w at)

results_defined : (p : VersionedProgram) (k place : ℕ) → k < place → (o : Option Line) → slice_get p.lines k ≡ o → list_all (is_defined_before p.lines place) (defined_in o) ≡ true
results_defined p k place h None at = refl
results_defined p k place h (Some l) at =
    all_mapped (is_among (defined_names l)) (is_defined_before p.lines place) (λ v e. any_at (λ m. is_among (defined_names m) v) p.lines k place l at h e)
    (defined_names l) (all_own (defined_names l))

names_defined : (p : VersionedProgram) (k place : ℕ) → IsWellFormed p → k < place → list_all (is_defined_before p.lines place) (named_in (slice_get p.lines k)) ≡ true
names_defined p k place w h =
    all_both (is_defined_before p.lines place) (defined_in (slice_get p.lines k)) (read_in (slice_get p.lines k))
    (results_defined p k place h (slice_get p.lines k) refl) (reads_defined p k place w (omega arith) (slice_get p.lines k) refl)

-- so are the variables of a fact of places before it
variables_defined : (p : VersionedProgram) (i : ℕ) (h u : ℕ → Bool) → IsWellFormed p → list_all (is_defined_before p.lines (goal_place p.lines i)) (fact_variables p.lines [] (record { claim = claim.Goal i; hyps = line_hyps (those_below h (goal_place p.lines i)); cube = []; uses = those_below u (goal_place p.lines i) })) ≡ true
variables_defined p i h u w =
    let k = goal_place p.lines i in
    let q = is_defined_before p.lines k in
    let uses = all_flat q (λ j. named_in (slice_get p.lines j)) (those_below u k)
    (listed_all u (λ j. list_all q (named_in (slice_get p.lines j))) 0 k (λ j less e. names_defined p j k w less) (those_below u k) (those_listed u k)) in
    let hyps = all_flat q (hyp_variables p.lines []) (line_hyps (those_below h k))
    (listed_hyps h (λ x. list_all q (hyp_variables p.lines [] x)) 0 k (λ j less e. reads_defined p j k w (omega (arith, less)) (slice_get p.lines j) refl) (those_below h k) (those_listed h k)) in
    let goal = reads_defined p k k w (omega arith) (slice_get p.lines k) refl in
    all_both q _ _ (all_both q _ _ (all_both q _ _ uses hyps) refl) goal

pub route_variables : (p : VersionedProgram) (i : ℕ) (r : Route) → IsWellFormed p → list_all (is_defined_before p.lines (goal_place p.lines i)) (fact_variables p.lines [] (route_fact p i r)) ≡ true
unfolding cut_fact whole_fact
route_variables p i route.Cut w = variables_defined p i _ _ w
route_variables p i route.Whole w = variables_defined p i (is_hypothesis_at p.lines) (is_step_at p.lines) w

-- a bit that the variable has, of a variable that is defined before the place
abbrev is_before_place : VersionedProgram → ℕ → Bit → Bool
is_before_place p place b = is_defined_before p.lines place b.var && has_bit (slice_get p.variables b.var) b.bit

has_lower : (o : Option Variable) (k : ℕ) → k < width_in o → has_bit o k ≡ true
has_lower None k h = absurd (omega arith)
has_lower (Some x) k h = lt-ltb k x.ty.width h

down_before : (p : VersionedProgram) (place v n : ℕ) → is_defined_before p.lines place v ≡ true → n ≤ width_in (slice_get p.variables v) → list_all (is_before_place p place) (bits_down v n) ≡ true
unfolding bits_down
down_before p place v zero e h = refl
down_before p place v (suc n) e h =
    let less : n < width_in (slice_get p.variables v) = omega arith in
    and_from _ _ (and_from (is_defined_before p.lines place v) (has_bit (slice_get p.variables v) n) e (has_lower (slice_get p.variables v) n less))
    (down_before p place v n e (omega arith))

free_before : (p : VersionedProgram) (i : ℕ) (r : Route) → IsWellFormed p → list_all (is_before_place p (goal_place p.lines i)) (free_bits p [] (route_fact p i r)) ≡ true
unfolding free_bits free_variables
free_before p i r w =
    let fact = route_fact p i r in
    let q = is_before_place p (goal_place p.lines i) in
    let free = is_free p [] fact in
    let all = length p.variables in
    all_flat q (bits_of p.variables) (those_below free all)
    (listed_all free (λ v. list_all q (bits_of p.variables v)) 0 all
    (λ v less e.
    let parts = and_parts (is_among (fact_variables p.lines [] fact) v) _ e in
    down_before p (goal_place p.lines i) v (width_in (slice_get p.variables v))
    (all_among (is_defined_before p.lines (goal_place p.lines i)) (fact_variables p.lines [] fact) v (route_variables p i r w) parts.0) (omega arith))
    (those_below free all) (those_listed free all))

-- free bits go up by variables and down by bits: after a bit of variable n - 1 with number w
abbrev After : ℕ → ℕ → Bit → Type 0
After n w b = (n ≤ b.var) ⊎ ((suc b.var ≡ n) × (b.bit < w))

abbrev Chain : ℕ → ℕ → List Bit → Type 0
Chain n w [] = Unit {0}
Chain n w (b ∷ bits) = After n w b × Chain (suc b.var) b.bit bits

after_later : (n w m u : ℕ) (b : Bit) → (n < m) ⊎ ((n ≡ m) × (u ≤ w)) → After m u b → After n w b
after_later n w m u b h a = elim h [
  | inl less ↦ elim a [
    | inl above ↦ inl (omega (arith, less, above))
    | inr same ↦ inl (omega (arith, less, same.0))
  ]
  | inr level ↦ elim a [
    | inl above ↦ inl (omega (arith, level.0, above))
    | inr same ↦ inr (omega (arith, level.0, same.0), omega (arith, level.1, same.1))
  ]
]

chain_later : (n w m u : ℕ) (bits : List Bit) → (n < m) ⊎ ((n ≡ m) × (u ≤ w)) → Chain m u bits → Chain n w bits
chain_later n w m u [] h c = tt
chain_later n w m u (b ∷ bits) h c = (after_later n w m u b h c.0, c.1)

down_chain : (v n : ℕ) (bits : List Bit) → Chain (suc v) 0 bits → Chain (suc v) n (bits_down v n ++ bits)
unfolding bits_down
down_chain v zero bits c = c
down_chain v (suc n) bits c = (inr (refl, omega arith), down_chain v n bits c)

down_first : (n w v m : ℕ) (bits : List Bit) → n ≤ v → Chain (suc v) 0 bits → Chain n w (bits_down v m ++ bits)
unfolding bits_down
down_first n w v zero bits h c = chain_later n w (suc v) 0 bits (inl (omega arith)) c
down_first n w v (suc m) bits h c = (inl h, down_chain v m bits c)

listed_chain : (variables : List Variable) (test : ℕ → Bool) (n end : ℕ) (ks : List ℕ) → Listed test n end ks → Chain n 0 (flat_map (bits_of variables) ks)
listed_chain variables test n end [] a = tt
listed_chain variables test n end (k ∷ ks) a =
    down_first n 0 k (width_in (slice_get variables k)) (flat_map (bits_of variables) ks) a.1 (listed_chain variables test (suc k) end ks a.3)

chain_front : (n w k : ℕ) (bits : List Bit) → Chain n w bits → Chain n w (take k bits)
chain_front n w zero bits c = tt
chain_front n w (suc k) [] c = tt
chain_front n w (suc k) (b ∷ bits) c = (c.0, chain_front (suc b.var) b.bit k bits c.1)

-- so none stands twice, also among literals of them
after_differs : (b : BitLit) (c : BitLit) → After (suc b.var) b.bit (bit_at c) → same_bit b c ≡ false
after_differs b c a = elim a [
  | inl above ↦ grind (arith, nat_tests, above)
  | inr same ↦ grind (arith, nat_tests, same.0, same.1)
]

after_further : (n w : ℕ) (b : Bit) (bits : List Bit) → After n w b → Chain (suc b.var) b.bit bits → Chain n w bits
after_further n w b bits a c = elim a [
  | inl above ↦ chain_later n w (suc b.var) b.bit bits (inl (omega (arith, above))) c
  | inr same ↦ chain_later n w (suc b.var) b.bit bits (inr (omega (arith, same.0), omega (arith, same.1))) c
]

none_same : (b : BitLit) (cube : List BitLit) → Chain (suc b.var) b.bit (map bit_at cube) → list_any (same_bit b) cube ≡ false
none_same b [] c = refl
none_same b (d ∷ cube) c =
    or_neither (same_bit b d) (list_any (same_bit b) cube) (after_differs b d c.0)
    (none_same b cube (after_further (suc b.var) b.bit (bit_at d) (map bit_at cube) c.0 c.1))
  where
    or_neither : (x y : Bool) → x ≡ false → y ≡ false → (x || y) ≡ false
    or_neither true y e f = absurd (cc)
    or_neither false y e f = f

chain_differ : (n w : ℕ) (cube : List BitLit) → Chain n w (map bit_at cube) → bits_differ cube ≡ true
chain_differ n w [] c = refl
chain_differ n w (b ∷ cube) c =
    and_from _ _ (ap not (none_same b cube c.1)) (chain_differ (suc b.var) b.bit cube c.1)

-- bits of literals that are before a place
cube_before : (p : VersionedProgram) (place : ℕ) (cube : List BitLit) → list_all (is_before_place p place) (map bit_at cube) ≡ true → list_all (is_bit_before p place) cube ≡ true
cube_before p place [] e = refl
cube_before p place (b ∷ cube) e =
    let parts = and_parts (is_before_place p place (bit_at b)) (list_all (is_before_place p place) (map bit_at cube)) e in
    and_from _ _ parts.0 (cube_before p place cube parts.1)

-- the fact of a piece
with_cube : (p : VersionedProgram) (lemmas : List Numbered) (i : ℕ) (fact : Fact) (cube : List BitLit) → fact.claim ≡ claim.Goal i → InOrder p lemmas fact → bits_differ cube ≡ true → list_all (is_bit_before p (goal_place p.lines i)) cube ≡ true → InOrder p lemmas (record fact { cube = cube })
with_cube p lemmas i fact cube same o differ before = record {
  claim = o.claim;
  hyps = o.hyps;
  order = o.order;
  uses = o.uses;
  cube = and_from _ _ differ (ap (λ c. list_all (is_bit_before p (claim_place p.lines c)) cube) same ∙ before);
}

route_claim : (p : VersionedProgram) (i : ℕ) (r : Route) → (route_fact p i r).claim ≡ claim.Goal i
unfolding cut_fact whole_fact
route_claim p i route.Cut = refl
route_claim p i route.Whole = refl

pub piece_in_order : (p : VersionedProgram) (lemmas : List Numbered) (q : Piece) → IsWellFormed p → IsPiece p q → InOrder p lemmas (piece_fact p q)
unfolding piece_fact free_bits free_variables
piece_in_order p lemmas q w piece =
    let fact = route_fact p q.goal q.route in
    let free = free_bits p [] fact in
    let n = length q.cube in
    let chain : Chain 0 0 (map bit_at q.cube) =
    subst (Chain 0 0) (sym piece.cube) (chain_front 0 0 n free (listed_chain p.variables (is_free p [] fact) 0 (length p.variables) (free_variables p [] fact) (those_listed (is_free p [] fact) (length p.variables)))) in
    let before : list_all (is_before_place p (goal_place p.lines q.goal)) (map bit_at q.cube) ≡ true =
    ap (list_all (is_before_place p (goal_place p.lines q.goal))) piece.cube ∙ all_front (is_before_place p (goal_place p.lines q.goal)) n free (free_before p q.goal q.route w) in
    with_cube p lemmas q.goal fact q.cube (route_claim p q.goal q.route) (route_order p lemmas q.goal q.route piece.goal)
    (chain_differ 0 0 q.cube chain) (cube_before p (goal_place p.lines q.goal) q.cube before)
