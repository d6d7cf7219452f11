-- The variables that a fact in order names are defined before the place of its claim.
use Rattle.std.proofs.Common.{◌≡◌, ℕ, zero, suc, ◌+◌, ◌<◌, ◌≤◌, inl, inr, refl, sym, ◌∙◌, ap, arith, Bool, true, nat_eq, nat_lt, List, [], ◌∷◌, ◌++◌, length, Option, Some, None}
use Rattle.std.specs.List.{slice_get, flat_map, list_all}
use Rattle.std.proofs.lemmas.Bool.{and_parts, eqb-true, ltb-true}
use Rattle.std.proofs.lemmas.Bool.Decides.{nat_tests}
use Rattle.std.proofs.lemmas.List.Concat.{flat_map-cons}
use Rattle.tcl_list.proofs.Booleans.{or_cases}
use Rattle.tcl_lang.specs.declared.pred.Line.{Line}
use Rattle.tcl_lang.specs.Program.{VersionedProgram}
use Rattle.tcl_lang.specs.Names.{used_names, defined_names}
use Rattle.tcl_lang.specs.Defined.{is_among, is_defined_before}
use Rattle.tcl_lang.specs.Limit.{definitions_before}
use Rattle.tcl_lang.specs.Versions.{numbers_from}
use Rattle.tcl_lang.specs.Form.{IsWellFormed}
use Rattle.tcl_lang.proofs.FormFacts.{definitions_go}
use Rattle.tcl_lang.proofs.FormEnds.{defined_at}
use Rattle.tcl_goals.specs.declared.fact.BitLit.{BitLit}
use Rattle.tcl_goals.specs.declared.fact.Hyp.{Hyp}
use Rattle.tcl_goals.specs.declared.fact.Hyp.TheVariants as hyp
use Rattle.tcl_goals.specs.declared.fact.Claim.{Claim}
use Rattle.tcl_goals.specs.declared.fact.Claim.TheVariants as claim
use Rattle.tcl_goals.specs.declared.fact.Key.{Key}
use Rattle.tcl_goals.specs.declared.fact.Fact.{Fact}
use Rattle.tcl_goals.specs.declared.lemma.Lemma.{Lemma}
use Rattle.tcl_goals.specs.declared.lemma.Numbered.{Numbered}
use Rattle.tcl_goals.specs.Numbers.{numbers_rise}
use Rattle.tcl_goals.specs.Keys.{key_less, line_key, lemma_key, found_key, claim_key, claim_place, hyps_rise}
use Rattle.tcl_goals.specs.LemmaList.{lemma_of, next_number}
use Rattle.tcl_goals.specs.Places.{goal_place, has_goal}
use Rattle.tcl_goals.specs.Slices.{read_in, named_in}
use Rattle.tcl_goals.specs.Free.{bit_variables, lemma_variables, hyp_variables, claim_variables, fact_variables}
use Rattle.tcl_goals.specs.Order.{InOrder, has_bit, is_bit_before, has_claim, is_before, is_step_before, bits_differ}
use Rattle.tcl_goals.proofs.GoalPlaces.{goal_place_bound}
use Rattle.tcl_blast.specs.ModelRuns.{AreLemmas}
use Rattle.tcl_blast.proofs.Members.{among_parts, among_at, flat_from, used_below, places_grow}

-- what holds of all holds of one
pub all_at : {X : Type 0} (test : X → Bool) (xs : List X) (n : ℕ) (x : X) → list_all test xs ≡ true → slice_get xs n ≡ Some x → test x ≡ true
all_at test [] n x e at = absurd (cc)
all_at test (y ∷ xs) zero x e at = let same : y ≡ x = cc in ap test (sym same) ∙ (and_parts (test y) (list_all test xs) e).0
all_at test (y ∷ xs) (suc n) x e at = all_at test xs n x (and_parts (test y) (list_all test xs) e).1 at

-- numbers from n on end with their count
numbers_less : (n v : ℕ) (xs : List ℕ) → is_among (numbers_from n xs) v ≡ true → v < n + length xs
numbers_less n v [] e = absurd (cc)
numbers_less n v (x ∷ xs) e = elim (or_cases (nat_eq n v) (is_among (numbers_from (n + 1) xs) v) e) [
  | inl here ↦ let same : n ≡ v = eqb-true n v here in omega (arith, same)
  | inr rest ↦ omega (arith, numbers_less (n + 1) v xs rest)
]

-- what a line names is defined before the next one
named_less : (p : VersionedProgram) (k v : ℕ) (o : Option Line) → IsWellFormed p → slice_get p.lines k ≡ o → is_among (named_in o) v ≡ true → v < definitions_before p.lines (k + 1)
named_less p k v None w at m = absurd (cc)
named_less p k v (Some l) w at m = elim (among_parts (defined_names l) (used_names l) v m) [
  | inl own ↦ omega (arith, numbers_less (definitions_before p.lines k) v (defined_names l) (sym (ap (λ xs. is_among xs v) (w.defines k l at)) ∙ own), definitions_go p.lines k l at)
  | inr read ↦ omega (arith, used_below p k v l w at read, definitions_go p.lines k l at)
]

read_before : (p : VersionedProgram) (k v : ℕ) (o : Option Line) → IsWellFormed p → slice_get p.lines k ≡ o → is_among (read_in o) v ≡ true → v < definitions_before p.lines k
read_before p k v None w at m = absurd (cc)
read_before p k v (Some l) w at m = used_below p k v l w at m

-- a bit of a variable that is defined before a place
pub bit_before : (p : VersionedProgram) (place : ℕ) (b : BitLit) → IsWellFormed p → place ≤ length p.lines → is_bit_before p place b ≡ true → b.var < definitions_before p.lines place
bit_before p place b w h e =
    ltb-true b.var (definitions_before p.lines place)
    (sym (defined_at p place b.var w h) ∙ (and_parts (is_defined_before p.lines place b.var) (has_bit (slice_get p.variables b.var) b.bit) e).0)

bits_before : (p : VersionedProgram) (place v : ℕ) (bits : List BitLit) → IsWellFormed p → place ≤ length p.lines → list_all (is_bit_before p place) bits ≡ true → is_among (bit_variables bits) v ≡ true → v < definitions_before p.lines place
bits_before p place v [] w h e m = absurd (cc)
bits_before p place v (b ∷ bits) w h e m =
    let parts = and_parts (is_bit_before p place b) (list_all (is_bit_before p place) bits) e in
    elim (or_cases (nat_eq b.var v) (is_among (bit_variables bits) v) m) [
      | inl here ↦ omega (arith, eqb-true b.var v here, bit_before p place b w h parts.0)
      | inr rest ↦ bits_before p place v bits w h parts.1 rest
    ]

-- keys and places
place_not_above : (a b : Key) → key_less a b ≡ true → a.place ≤ b.place
place_not_above a b e = grind (arith, nat_tests)

line_below_line : (j k : ℕ) → key_less (line_key j) (line_key k) ≡ true → j < k
line_below_line j k e = grind (arith, nat_tests)

line_below_lemma : (lines : List Line) (j i n : ℕ) → key_less (line_key j) (lemma_key lines i n) ≡ true → j < goal_place lines i
line_below_lemma lines j i n e = grind (arith, nat_tests)

pub line_below : (p : VersionedProgram) (lemmas : List Numbered) (c : Claim) (k : ℕ) → is_before p.lines lemmas c (hyp.Line k) ≡ true → k < claim_place p.lines c
line_below p lemmas (claim.Goal i) k e = line_below_line k (goal_place p.lines i) e
line_below p lemmas (claim.Lemma m) k e = line_below_lemma p.lines k m.level (next_number lemmas) e

key_place : (p : VersionedProgram) (lemmas : List Numbered) (c : Claim) → (claim_key p.lines lemmas c).place ≡ claim_place p.lines c
key_place p lemmas (claim.Goal i) = refl
key_place p lemmas (claim.Lemma m) = refl

pub claim_bound : (lines : List Line) (c : Claim) → claim_place lines c ≤ length lines
claim_bound lines (claim.Goal i) = goal_place_bound lines i
claim_bound lines (claim.Lemma m) = goal_place_bound lines m.level

-- a lemma that a fact in order cites
pub lemma_bits : (p : VersionedProgram) (lemmas : List Numbered) (c : Claim) (n : ℕ) (m : Lemma) → AreLemmas p lemmas → is_before p.lines lemmas c (hyp.Lemma n) ≡ true → lemma_of lemmas n ≡ Some m
    → (goal_place p.lines m.level ≤ claim_place p.lines c) × (list_all (is_bit_before p (goal_place p.lines m.level)) m.clause ≡ true)
lemma_bits p lemmas c n m are e at = (
  low,
  (and_parts (has_goal p.lines m.level) (list_all (is_bit_before p (goal_place p.lines m.level)) m.clause) (are n m at)).1,
) where
  low : goal_place p.lines m.level ≤ claim_place p.lines c
  low =
      let less = place_not_above (found_key p.lines (lemma_of lemmas n) n) (claim_key p.lines lemmas c) e in
      let place : (found_key p.lines (lemma_of lemmas n) n).place ≡ goal_place p.lines m.level = ap (λ (o : Option Lemma). (found_key p.lines o n).place) at in
      omega (arith, less, place, key_place p lemmas c)

-- the parts of a fact
step_below : (p : VersionedProgram) (place k : ℕ) (uses : List ℕ) → list_all (is_step_before p.lines place) uses ≡ true → is_among uses k ≡ true → k < place
step_below p place k uses e m =
    let found = among_at uses k m in
    ltb-true k place (and_parts _ (nat_lt k place) (all_at (is_step_before p.lines place) uses found.0 k e found.1)).1

hyp_from : (f : Hyp → List ℕ) (hs : List Hyp) (v : ℕ) → is_among (flat_map f hs) v ≡ true → (n : ℕ) × (h : Hyp) × (slice_get hs n ≡ Some h) × (is_among (f h) v ≡ true)
hyp_from f [] v e = absurd (cc)
hyp_from f (h ∷ hs) v e = elim (among_parts (f h) (flat_map f hs) v (sym (ap (λ xs. is_among xs v) (flat_map-cons f h hs)) ∙ e)) [
  | inl here ↦ (0, h, refl, here)
  | inr rest ↦ let found = hyp_from f hs v rest in (suc found.0, found.1, found.2, found.3)
]

hyp_below : (p : VersionedProgram) (lemmas : List Numbered) (c : Claim) (h : Hyp) (v : ℕ) → IsWellFormed p → AreLemmas p lemmas → is_before p.lines lemmas c h ≡ true → is_among (hyp_variables p.lines lemmas h) v ≡ true → v < definitions_before p.lines (claim_place p.lines c)
hyp_below p lemmas c (hyp.Line k) v w are e m =
    omega (arith, read_before p k v (slice_get p.lines k) w refl m, places_grow p.lines k (claim_place p.lines c) (omega (arith, line_below p lemmas c k e)) (claim_bound p.lines c))
hyp_below p lemmas c (hyp.Lemma n) v w are e m = cited (lemma_of lemmas n) refl m
  where
    cited : (o : Option Lemma) → lemma_of lemmas n ≡ o → is_among (lemma_variables o) v ≡ true → v < definitions_before p.lines (claim_place p.lines c)
    cited None at f = absurd (cc)
    cited (Some x) at f =
        let bits = lemma_bits p lemmas c n x are e at in
        omega (arith, bits_before p (goal_place p.lines x.level) v x.clause w (goal_place_bound p.lines x.level) bits.1 f, places_grow p.lines (goal_place p.lines x.level) (claim_place p.lines c) bits.0 (claim_bound p.lines c))

claim_below : (p : VersionedProgram) (c : Claim) (v : ℕ) → IsWellFormed p → has_claim p c ≡ true → is_among (claim_variables p.lines c) v ≡ true → v < definitions_before p.lines (claim_place p.lines c)
claim_below p (claim.Goal i) v w e m = read_before p (goal_place p.lines i) v (slice_get p.lines (goal_place p.lines i)) w refl m
claim_below p (claim.Lemma x) v w e m =
    bits_before p (goal_place p.lines x.level) v x.clause w (goal_place_bound p.lines x.level) (and_parts (has_goal p.lines x.level) (list_all (is_bit_before p (goal_place p.lines x.level)) x.clause) e).1 m

pub hyp_order : (p : VersionedProgram) (lemmas : List Numbered) (fact : Fact) (n : ℕ) (h : Hyp) → InOrder p lemmas fact → slice_get fact.hyps n ≡ Some h → is_before p.lines lemmas fact.claim h ≡ true
hyp_order p lemmas fact n h order at =
    all_at (is_before p.lines lemmas fact.claim) fact.hyps n h (and_parts (hyps_rise p.lines lemmas fact.hyps) (list_all (is_before p.lines lemmas fact.claim) fact.hyps) order.order).1 at

pub named_before : (p : VersionedProgram) (lemmas : List Numbered) (fact : Fact) (v : ℕ) → IsWellFormed p → InOrder p lemmas fact → AreLemmas p lemmas → is_among (fact_variables p.lines lemmas fact) v ≡ true → v < definitions_before p.lines (claim_place p.lines fact.claim)
named_before p lemmas fact v w order are m =
    let place = claim_place p.lines fact.claim in
    let uses = flat_map (λ j. named_in (slice_get p.lines j)) fact.uses in
    let hyps = flat_map (hyp_variables p.lines lemmas) fact.hyps in
    let cube = bit_variables fact.cube in
    let claims = claim_variables p.lines fact.claim in
    elim (among_parts (uses ++ hyps ++ cube) claims v m) [
      | inr claimed ↦ claim_below p fact.claim v w order.claim claimed
      | inl others ↦ elim (among_parts (uses ++ hyps) cube v others) [
        | inr bit ↦ bits_before p place v fact.cube w (claim_bound p.lines fact.claim) (and_parts (bits_differ fact.cube) (list_all (is_bit_before p place) fact.cube) order.cube).1 bit
        | inl named ↦ elim (among_parts uses hyps v named) [
          | inl used ↦
              let from = flat_from (λ j. named_in (slice_get p.lines j)) fact.uses v used in
              let below = step_below p place from.0 fact.uses (and_parts (numbers_rise fact.uses) (list_all (is_step_before p.lines place) fact.uses) order.uses).1 from.1 in
              omega (arith, named_less p from.0 v (slice_get p.lines from.0) w refl from.2, places_grow p.lines (from.0 + 1) place (omega (arith, below)) (claim_bound p.lines fact.claim))
          | inr assumed ↦
              let from = hyp_from (hyp_variables p.lines lemmas) fact.hyps v assumed in
              hyp_below p lemmas fact.claim from.1 v w are (hyp_order p lemmas fact from.0 from.1 order from.2) from.3
        ]
      ]
    ]
