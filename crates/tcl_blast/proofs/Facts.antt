-- The variables of a fact are known once its used instructions have become gates.
use Rattle.std.proofs.Common.{◌≡◌, ◌⊎◌, inl, inr, ℕ, ◌<◌, Bool, true, false, not, ◌||◌, List, [], ◌∷◌, ◌++◌, length, fold, Option, Some, None, refl, sym, ◌∙◌, ap, subst, arith, ℤ, nat_eq}
use Rattle.std.specs.List.{slice_get, flat_map}
use Rattle.std.proofs.lemmas.Bool.{and_from, eqb-true}
use Rattle.std.proofs.lemmas.List.{append-nil, append_assoc}
use Rattle.std.proofs.lemmas.Option.{slice_get_within}
use Rattle.tcl_list.proofs.Booleans.{or_cases, or_left, or_right}
use Rattle.tcl_lang.specs.declared.pred.Line.{Line}
use Rattle.tcl_lang.specs.Program.{VersionedProgram}
use Rattle.tcl_lang.specs.Names.{used_names, defined_names}
use Rattle.tcl_lang.specs.Values.{words_of}
use Rattle.tcl_lang.specs.Defined.{is_among}
use Rattle.tcl_lang.specs.Form.{IsWellFormed}
use Rattle.tcl_lang.proofs.FormFacts.{all_definitions}
use Rattle.tcl_goals.specs.declared.fact.Fact.{Fact}
use Rattle.tcl_goals.specs.declared.fact.Hyp.{Hyp}
use Rattle.tcl_goals.specs.declared.lemma.Numbered.{Numbered}
use Rattle.tcl_goals.specs.Numbers.{rise_after, numbers_rise}
use Rattle.tcl_goals.specs.Slices.{read_in, named_in}
use Rattle.tcl_goals.specs.Free.{bit_variables, hyp_variables, claim_variables, fact_variables, computed_in, computed_variables, free_variables}
use Rattle.tcl_goals.specs.Assignments.{Assigns}
use Rattle.tcl_blast.specs.declared.blasted.Blasted.{Blasted}
use Rattle.tcl_blast.specs.Clauses.{with_use}
use Rattle.tcl_blast.proofs.Members.{among_left, among_right, among_parts, among_first, among_at, flat_from, flat_at, flat_into, computed_before, risen_first, risen_rest, used_below, places_grow}
use Rattle.tcl_blast.proofs.States.{IsState, use_state}
use Rattle.tcl_blast.proofs.Beginnings.{free_member, word_type}

-- a variable is free, or one of these instructions computes it
abbrev pub known_by : VersionedProgram → List Numbered → Fact → List ℕ → ℕ → Bool
known_by p lemmas fact done v = is_among (free_variables p lemmas fact) v || is_among (computed_variables p.lines done) v

-- the parts of a fact name variables of the fact
pub used_named : (p : VersionedProgram) (lemmas : List Numbered) (fact : Fact) (k v : ℕ) → is_among fact.uses k ≡ true → is_among (named_in (slice_get p.lines k)) v ≡ true → is_among (fact_variables p.lines lemmas fact) v ≡ true
used_named p lemmas fact k v u m =
    let uses = flat_map (λ j. named_in (slice_get p.lines j)) fact.uses in
    let hyps = flat_map (hyp_variables p.lines lemmas) fact.hyps in
    let cube = bit_variables fact.cube in
    let claims = claim_variables p.lines fact.claim in
    among_left (uses ++ hyps ++ cube) claims v (among_left (uses ++ hyps) cube v (among_left uses hyps v (flat_into (λ j. named_in (slice_get p.lines j)) fact.uses k v u m)))

pub hyp_named : (p : VersionedProgram) (lemmas : List Numbered) (fact : Fact) (n v : ℕ) (h : Hyp) → slice_get fact.hyps n ≡ Some h → is_among (hyp_variables p.lines lemmas h) v ≡ true → is_among (fact_variables p.lines lemmas fact) v ≡ true
hyp_named p lemmas fact n v h e m =
    let uses = flat_map (λ j. named_in (slice_get p.lines j)) fact.uses in
    let hyps = flat_map (hyp_variables p.lines lemmas) fact.hyps in
    let cube = bit_variables fact.cube in
    let claims = claim_variables p.lines fact.claim in
    among_left (uses ++ hyps ++ cube) claims v (among_left (uses ++ hyps) cube v (among_right uses hyps v (flat_at (hyp_variables p.lines lemmas) fact.hyps n v h e m)))

pub cube_named : (p : VersionedProgram) (lemmas : List Numbered) (fact : Fact) (v : ℕ) → is_among (bit_variables fact.cube) v ≡ true → is_among (fact_variables p.lines lemmas fact) v ≡ true
cube_named p lemmas fact v m =
    let uses = flat_map (λ j. named_in (slice_get p.lines j)) fact.uses in
    let hyps = flat_map (hyp_variables p.lines lemmas) fact.hyps in
    let cube = bit_variables fact.cube in
    let claims = claim_variables p.lines fact.claim in
    among_left (uses ++ hyps ++ cube) claims v (among_right (uses ++ hyps) cube v m)

pub claim_named : (p : VersionedProgram) (lemmas : List Numbered) (fact : Fact) (v : ℕ) → is_among (claim_variables p.lines fact.claim) v ≡ true → is_among (fact_variables p.lines lemmas fact) v ≡ true
claim_named p lemmas fact v m =
    let uses = flat_map (λ j. named_in (slice_get p.lines j)) fact.uses in
    let hyps = flat_map (hyp_variables p.lines lemmas) fact.hyps in
    let cube = bit_variables fact.cube in
    let claims = claim_variables p.lines fact.claim in
    among_right (uses ++ hyps ++ cube) claims v m

-- a variable of the fact that the program has is free, or a used instruction computes it
pub known_after : (p : VersionedProgram) (lemmas : List Numbered) (fact : Fact) (v : ℕ) → v < length p.variables → is_among (fact_variables p.lines lemmas fact) v ≡ true → known_by p lemmas fact fact.uses v ≡ true
known_after p lemmas fact v h m = by (is_among (computed_variables p.lines fact.uses) v) refl
  where
    by : (b : Bool) → is_among (computed_variables p.lines fact.uses) v ≡ b → known_by p lemmas fact fact.uses v ≡ true
    by true e = or_right (is_among (free_variables p lemmas fact) v) (is_among (computed_variables p.lines fact.uses) v) e
    by false e =
        or_left (is_among (free_variables p lemmas fact) v) (is_among (computed_variables p.lines fact.uses) v)
        (free_member p lemmas fact v h (and_from (is_among (fact_variables p.lines lemmas fact) v) (not (is_among (computed_variables p.lines fact.uses) v)) m (ap not e)))

-- a line reads variables that the program has
pub read_less : (p : VersionedProgram) (k v : ℕ) (o : Option Line) → IsWellFormed p → slice_get p.lines k ≡ o → is_among (read_in o) v ≡ true → v < length p.variables
read_less p k v None w at m = absurd (cc)
read_less p k v (Some l) w at m =
    omega (arith, used_below p k v l w at m, places_grow p.lines k (length p.lines) (omega (arith, slice_get_within p.lines k l at)) (omega arith), all_definitions p.lines, w.count)

-- what the used instruction k reads is known once those before it have become gates
in_done : (o : Option ℕ) (done rest : List ℕ) (k j : ℕ) → rise_after o (done ++ k ∷ rest) ≡ true → is_among (done ++ k ∷ rest) j ≡ true → j < k → is_among done j ≡ true
in_done o done rest k j r m less = elim (among_parts done (k ∷ rest) j m) [
  | inl here ↦ here
  | inr later ↦ let last = risen_rest o done (k ∷ rest) r in absurd (omega (arith, less, risen_first last.0 k rest j last.1 later))
]

pub read_known : (p : VersionedProgram) (lemmas : List Numbered) (fact : Fact) (done rest : List ℕ) (k v : ℕ) (l : Line) → IsWellFormed p → numbers_rise fact.uses ≡ true → fact.uses ≡ done ++ k ∷ rest → slice_get p.lines k ≡ Some l → is_among (used_names l) v ≡ true
    → known_by p lemmas fact done v ≡ true
read_known p lemmas fact done rest k v l w rise is at m =
    let used : is_among fact.uses k ≡ true = ap (λ us. is_among us k) is ∙ among_right done (k ∷ rest) k (among_first k rest) in
    let named : is_among (fact_variables p.lines lemmas fact) v ≡ true =
    used_named p lemmas fact k v used (ap (λ (o : Option Line). is_among (named_in o) v) at ∙ among_right (defined_names l) (used_names l) v m) in
    elim (or_cases (is_among (free_variables p lemmas fact) v) (is_among (computed_variables p.lines fact.uses) v) (known_after p lemmas fact v (read_less p k v (Some l) w at m) named)) [
      | inl free ↦ or_left (is_among (free_variables p lemmas fact) v) (is_among (computed_variables p.lines done) v) free
      | inr made ↦
          let from = flat_from (λ j. computed_in (slice_get p.lines j)) fact.uses v made in
          let before = computed_before p from.0 k v l w at m from.2 in
          or_right (is_among (free_variables p lemmas fact) v) (is_among (computed_variables p.lines done) v)
          (flat_into (λ j. computed_in (slice_get p.lines j)) done from.0 v
          (in_done None done rest k from.0 (sym (ap numbers_rise is) ∙ rise) (sym (ap (λ us. is_among us from.0) is) ∙ from.1) before) from.2)
    ]

pub one_more : (p : VersionedProgram) (lemmas : List Numbered) (fact : Fact) (done : List ℕ) (k v : ℕ) → known_by p lemmas fact (done ++ k ∷ []) v ≡ true → (known_by p lemmas fact done v ≡ true) ⊎ (is_among (computed_in (slice_get p.lines k)) v ≡ true)
one_more p lemmas fact done k v m = elim (or_cases (is_among (free_variables p lemmas fact) v) (is_among (computed_variables p.lines (done ++ k ∷ [])) v) m) [
  | inl free ↦ inl (or_left (is_among (free_variables p lemmas fact) v) (is_among (computed_variables p.lines done) v) free)
  | inr made ↦
      let from = flat_from (λ j. computed_in (slice_get p.lines j)) (done ++ k ∷ []) v made in
      elim (among_parts done (k ∷ []) from.0 from.1) [
        | inl old ↦ inl (or_right (is_among (free_variables p lemmas fact) v) (is_among (computed_variables p.lines done) v) (flat_into (λ j. computed_in (slice_get p.lines j)) done from.0 v old from.2))
        | inr new ↦ inr (subst (λ j. is_among (computed_in (slice_get p.lines j)) v ≡ true) (one from.0 new) from.2)
      ]
]
  where
    one : (j : ℕ) → is_among (k ∷ []) j ≡ true → j ≡ k
    one j e = elim (or_cases (nat_eq k j) false e) [ inl here ↦ sym (eqb-true k j here) | inr none ↦ absurd (cc) ]

-- all used instructions
uses_go : (p : VersionedProgram) (lemmas : List Numbered) (fact : Fact) (values : List ℤ) (free : List Bool) → IsWellFormed p → Assigns p fact values → numbers_rise fact.uses ≡ true → (done rest : List ℕ) (s : Blasted) → fact.uses ≡ done ++ rest
    → IsState p.variables (words_of p.variables values) free (known_by p lemmas fact done) s → IsState p.variables (words_of p.variables values) free (known_by p lemmas fact fact.uses) (fold (with_use p) s rest)
uses_go p lemmas fact values free w a rise done [] s is x =
    subst (λ (us : List ℕ). IsState p.variables (words_of p.variables values) free (known_by p lemmas fact us) s) (sym (is ∙ append-nil done)) x
uses_go p lemmas fact values free w a rise done (k ∷ rest) s is x =
    let used = among_at fact.uses k (ap (λ us. is_among us k) is ∙ among_right done (k ∷ rest) k (among_first k rest)) in
    uses_go p lemmas fact values free w a rise (done ++ k ∷ []) rest (with_use p s k) (is ∙ sym (append_assoc done (k ∷ []) rest))
    (use_state p k (words_of p.variables values) free (known_by p lemmas fact done) (known_by p lemmas fact (done ++ k ∷ [])) s w (a.executed used.0 k used.1) (λ v. word_type p.variables values v a.typed)
    (reads (slice_get p.lines k) refl) (one_more p lemmas fact done k) x)
  where
    reads : (o : Option Line) → slice_get p.lines k ≡ o → (v : ℕ) → is_among (read_in o) v ≡ true → known_by p lemmas fact done v ≡ true
    reads None at v m = absurd (cc)
    reads (Some l) at v m = read_known p lemmas fact done rest k v l w rise is at m

pub uses_state : (p : VersionedProgram) (lemmas : List Numbered) (fact : Fact) (values : List ℤ) (free : List Bool) (s : Blasted) → IsWellFormed p → Assigns p fact values → numbers_rise fact.uses ≡ true
    → IsState p.variables (words_of p.variables values) free (is_among (free_variables p lemmas fact)) s → IsState p.variables (words_of p.variables values) free (known_by p lemmas fact fact.uses) (fold (with_use p) s fact.uses)
uses_state p lemmas fact values free s w a rise x =
    uses_go p lemmas fact values free w a rise [] fact.uses s refl
    (record { ordered = x.ordered; count = x.count; within = x.within; shown = λ v m. x.shown v (none_done v m); met = x.met })
  where
    none_done : (v : ℕ) → known_by p lemmas fact [] v ≡ true → is_among (free_variables p lemmas fact) v ≡ true
    none_done v m = elim (or_cases (is_among (free_variables p lemmas fact) v) (is_among (computed_variables p.lines []) v) m) [ inl free ↦ free | inr made ↦ absurd (cc) ]
