-- In an assignment of a fact the values of its free variables determine those of all variables that it names; and computing
-- its used instructions anew, in order, makes an assignment of any values in their types.
use Rattle.std.proofs.Common.{◌≡◌, ℕ, zero, suc, ◌+◌, ◌-◌, ◌<◌, ◌≤◌, inl, inr, refl, sym, ◌∙◌, ap, subst, arith, ℤ, Bool, true, false, not, nat_eq, List, [], ◌∷◌, ◌++◌, length, map, filter_map, Option, Some, None}
use Rattle.std.specs.List.{slice_get, flat_map}
use Rattle.std.proofs.lemmas.Bool.{cases_lt, and_from, eqb-true}
use Rattle.std.proofs.lemmas.Bool.Decides.{nat_tests}
use Rattle.std.proofs.lemmas.List.Folds.{list_any-append}
use Rattle.std.proofs.lemmas.List.Concat.{flat_map-cons}
use Rattle.std.proofs.lemmas.Option.{slice_get_within}
use Rattle.tcl_list.proofs.Booleans.{or_cases}
use Rattle.tcl_lang.specs.declared.instr.Instr.{Instr}
use Rattle.tcl_lang.specs.declared.pred.Line.{Line}
use Rattle.tcl_lang.specs.declared.pred.Line.TheVariants.{Input, Pre, Step, Assert, Assume, Cut, Post}
use Rattle.tcl_lang.specs.Program.{VersionedProgram}
use Rattle.tcl_lang.specs.Store.{word_at}
use Rattle.tcl_lang.specs.Names.{name_of, used_names, defined_names, occurrences}
use Rattle.tcl_lang.specs.Line.{values_of}
use Rattle.tcl_lang.specs.Results.{results_of}
use Rattle.tcl_lang.specs.Run.{operands_of}
use Rattle.tcl_lang.specs.Values.{value_at, words_of}
use Rattle.tcl_lang.specs.Versions.{numbers_from}
use Rattle.tcl_lang.specs.Defined.{is_among}
use Rattle.tcl_lang.specs.Limit.{definitions_before}
use Rattle.tcl_lang.specs.Executed.{values_at, choice_in, IsExecuted, IsExecutedAt}
use Rattle.tcl_lang.specs.Form.{IsWellFormed}
use Rattle.tcl_lang.proofs.Locality.{all_among, values_local}
use Rattle.tcl_lang.proofs.FormFacts.{definitions_go}
use Rattle.tcl_lang.proofs.FormEnds.{none_before, definitions_grow}
use Rattle.tcl_goals.specs.declared.fact.Fact.{Fact}
use Rattle.tcl_goals.specs.declared.lemma.Numbered.{Numbered}
use Rattle.tcl_goals.specs.Slices.{named_in}
use Rattle.tcl_goals.specs.Free.{hyp_variables, claim_variables, bit_variables, fact_variables, computed_results, computed_in, computed_variables, is_free}
use Rattle.tcl_goals.specs.Assignments.{Assigns}
use Rattle.tcl_enum.proofs.Opcodes.{results_only, is_result, no_choice}
use Rattle.tcl_enum.proofs.Agreement.{Agree, among_left, among_right, word_value, words_same}

-- members
pub among_at : (xs : List ℕ) (k : ℕ) → is_among xs k ≡ true → (n : ℕ) × (slice_get xs n ≡ Some k)
among_at [] k e = absurd (cc)
among_at (x ∷ xs) k e = elim (or_cases (nat_eq x k) (is_among xs k) e) [
  | inl here ↦ (0, ap (λ y. Some y) (eqb-true x k here))
  | inr rest ↦ let found = among_at xs k rest in (suc found.0, found.1)
]

pub at_among : (xs : List ℕ) (n k : ℕ) → slice_get xs n ≡ Some k → is_among xs k ≡ true
at_among [] n k e = absurd (cc)
at_among (x ∷ xs) zero k e = among_left (x ∷ []) xs k (one x k (same x k e))
  where
    same : (a b : ℕ) → Some a ≡ Some b → a ≡ b
    same a b f = cc

    one : (a b : ℕ) → a ≡ b → is_among (a ∷ []) b ≡ true
    one a b f = grind (arith, nat_tests, f)
at_among (x ∷ xs) (suc n) k e = among_right (x ∷ []) xs k (at_among xs n k e)

flat_from : (f : ℕ → List ℕ) (ks : List ℕ) (v : ℕ) → is_among (flat_map f ks) v ≡ true → (k : ℕ) × (is_among ks k ≡ true) × (is_among (f k) v ≡ true)
flat_from f [] v e = absurd (cc)
flat_from f (k ∷ ks) v e =
    elim (or_cases (is_among (f k) v) (is_among (flat_map f ks) v) (sym (ap (λ vs. is_among vs v) (flat_map-cons f k ks) ∙ list_any-append (λ u. nat_eq u v) (f k) (flat_map f ks)) ∙ e)) [
      | inl here ↦ (k, at_among (k ∷ ks) 0 k refl, here)
      | inr rest ↦ let found = flat_from f ks v rest in (found.0, among_right (k ∷ []) ks found.0 found.1, found.2)
    ]

flat_into : (f : ℕ → List ℕ) (ks : List ℕ) (k v : ℕ) → is_among ks k ≡ true → is_among (f k) v ≡ true → is_among (flat_map f ks) v ≡ true
flat_into f [] k v m e = absurd (cc)
flat_into f (j ∷ ks) k v m e =
    ap (λ vs. is_among vs v) (flat_map-cons f j ks)
    ∙ elim (or_cases (nat_eq j k) (is_among ks k) m) [
      | inl here ↦ among_left (f j) (flat_map f ks) v (ap (λ i. is_among (f i) v) (eqb-true j k here) ∙ e)
      | inr rest ↦ among_right (f j) (flat_map f ks) v (flat_into f ks k v rest e)
    ]

-- equal maps are equal at each member, and the other way round
mapped : (g h : ℕ → ℤ) (xs : List ℕ) (v : ℕ) → map g xs ≡ map h xs → is_among xs v ≡ true → g v ≡ h v
mapped g h [] v e m = absurd (cc)
mapped g h (x ∷ xs) v e m =
    elim (or_cases (nat_eq x v) (is_among xs v) m) [
      | inl here ↦ subst (λ y. g y ≡ h y) (eqb-true x v here) (heads (g x) (h x) (map g xs) (map h xs) e)
      | inr rest ↦ mapped g h xs v (tails (g x) (h x) (map g xs) (map h xs) e) rest
    ]
  where
    heads : (a b : ℤ) (ms ns : List ℤ) → a ∷ ms ≡ b ∷ ns → a ≡ b
    heads a b ms ns f = cc

    tails : (a b : ℤ) (ms ns : List ℤ) → a ∷ ms ≡ b ∷ ns → ms ≡ ns
    tails a b ms ns f = cc

pub map_same : (g h : ℕ → ℤ) (xs : List ℕ) → ((v : ℕ) → is_among xs v ≡ true → g v ≡ h v) → map g xs ≡ map h xs
map_same g h [] e = refl
map_same g h (x ∷ xs) e =
    ap (λ z. z ∷ map g xs) (e x (at_among (x ∷ xs) 0 x refl)) ∙ ap (λ zs. h x ∷ zs) (map_same g h xs (λ v m. e v (among_right (x ∷ []) xs v m)))

-- where the variables of a line stand
numbers_less : (n v : ℕ) (xs : List ℕ) → is_among (numbers_from n xs) v ≡ true → v < n + length xs
numbers_less n v [] e = absurd (cc)
numbers_less n v (x ∷ xs) e = elim (or_cases (nat_eq n v) (is_among (numbers_from (n + 1) xs) v) e) [
  | inl here ↦ let same : n ≡ v = eqb-true n v here in omega (arith, same)
  | inr rest ↦ omega (arith, numbers_less (n + 1) v xs rest)
]

clash : (b : Bool) → b ≡ true → b ≡ false → ⊥
clash b e f = cc

defined_least : (f : VersionedProgram) (k v : ℕ) (l : Line) → IsWellFormed f → slice_get f.lines k ≡ Some l → is_among (defined_names l) v ≡ true → definitions_before f.lines k ≤ v
defined_least f k v l w at m =
    elim (cases_lt v (definitions_before f.lines k)) [
      | inl less ↦
          absurd (clash (is_among (defined_names l) v) m
          (ap (λ names. is_among names v) (w.defines k l at) ∙ none_before (definitions_before f.lines k) v (defined_names l) less))
      | inr least ↦ least
    ]

defined_below : (f : VersionedProgram) (k v : ℕ) (l : Line) → IsWellFormed f → slice_get f.lines k ≡ Some l → is_among (defined_names l) v ≡ true → v < definitions_before f.lines (k + 1)
defined_below f k v l w at m =
    omega (arith, definitions_go f.lines k l at, numbers_less (definitions_before f.lines k) v (defined_names l) (sym (ap (λ names. is_among names v) (w.defines k l at)) ∙ m))

used_below : (f : VersionedProgram) (k v : ℕ) (l : Line) → IsWellFormed f → slice_get f.lines k ≡ Some l → is_among (used_names l) v ≡ true → v < definitions_before f.lines k
used_below f k v l w at m = all_among (λ x. x < definitions_before f.lines k) (used_names l) (w.reads k l at) v m

pub occurs_below : (f : VersionedProgram) (k v : ℕ) (l : Line) → IsWellFormed f → slice_get f.lines k ≡ Some l → is_among (occurrences l) v ≡ true → v < definitions_before f.lines (k + 1)
occurs_below f k v l w at m =
    elim (or_cases (is_among (defined_names l) v) (is_among (used_names l) v) (sym (list_any-append (λ u. nat_eq u v) (defined_names l) (used_names l)) ∙ m)) [
      | inl here ↦ defined_below f k v l w at here
      | inr read ↦ omega (arith, definitions_go f.lines k l at, used_below f k v l w at read)
    ]

computed_defined : (l : Line) (v : ℕ) → is_among (computed_in (Some l)) v ≡ true → is_among (defined_names l) v ≡ true
computed_defined (Input T u) v e = absurd (cc)
computed_defined (Pre p) v e = absurd (cc)
computed_defined (Step i) v e = is_result i.op i.outs v e
computed_defined (Assert p) v e = absurd (cc)
computed_defined (Assume p) v e = absurd (cc)
computed_defined (Cut p) v e = absurd (cc)
computed_defined (Post p) v e = absurd (cc)

pub computed_none : (l : Line) (v : ℕ) → is_among (defined_names l) v ≡ false → is_among (computed_in (Some l)) v ≡ false
computed_none (Input T u) v e = refl
computed_none (Pre p) v e = refl
computed_none (Step i) v e = results_only i.op i.outs v e
computed_none (Assert p) v e = refl
computed_none (Assume p) v e = refl
computed_none (Cut p) v e = refl
computed_none (Post p) v e = refl

-- an instruction reads what instructions before it compute
pub places_grow : (lines : List Line) (j k : ℕ) → j ≤ k → k ≤ length lines → definitions_before lines j ≤ definitions_before lines k
places_grow lines j k h g =
    let same : j + (k - j) ≡ k = omega (arith, h) in
    subst (λ n. definitions_before lines j ≤ definitions_before lines n) same (definitions_grow lines j (k - j) (omega (arith, same, g)))

computed_before : (f : VersionedProgram) (j k v : ℕ) (m : Line) → IsWellFormed f → slice_get f.lines k ≡ Some m → is_among (used_names m) v ≡ true → is_among (computed_in (slice_get f.lines j)) v ≡ true → j < k
computed_before f j k v m w at read made = from (slice_get f.lines j) refl made
  where
    from : (o : Option Line) → slice_get f.lines j ≡ o → is_among (computed_in o) v ≡ true → j < k
    from None e g = absurd (cc)
    from (Some l) e g = elim (cases_lt j k) [
      | inl less ↦ less
      | inr least ↦
          absurd (omega (arith, used_below f k v m w at read, defined_least f j v l w e (computed_defined l v g), places_grow f.lines k j least (omega (arith, slice_get_within f.lines j l e))))
    ]

-- assignments that agree on the free variables
abbrev pub FreeAgree : VersionedProgram → List Numbered → Fact → List ℤ → List ℤ → Type 0
FreeAgree f lemmas fact a b = (v : ℕ) → is_free f lemmas fact v ≡ true → value_at a v ≡ value_at b v

-- the results that used instructions before place k compute agree
abbrev AgreeBelow : VersionedProgram → Fact → List ℤ → List ℤ → ℕ → Type 0
AgreeBelow f fact a b k = (j v : ℕ) → j < k → is_among fact.uses j ≡ true → is_among (computed_in (slice_get f.lines j)) v ≡ true → value_at a v ≡ value_at b v

named_agrees : (f : VersionedProgram) (lemmas : List Numbered) (fact : Fact) (a b : List ℤ) (v : ℕ) → FreeAgree f lemmas fact a b → is_among (fact_variables f.lines lemmas fact) v ≡ true → ((j : ℕ) → is_among fact.uses j ≡ true → is_among (computed_in (slice_get f.lines j)) v ≡ true → value_at a v ≡ value_at b v) → value_at a v ≡ value_at b v
named_agrees f lemmas fact a b v free m made = from (is_among (computed_variables f.lines fact.uses) v) refl
  where
    from : (c : Bool) → is_among (computed_variables f.lines fact.uses) v ≡ c → value_at a v ≡ value_at b v
    from true e = let place = flat_from (λ k. computed_in (slice_get f.lines k)) fact.uses v e in made place.0 place.1 place.2
    from false e = free v (and_from (is_among (fact_variables f.lines lemmas fact) v) (not (is_among (computed_variables f.lines fact.uses) v)) m (ap not e))

-- a used instruction names variables of the fact
used_named : (f : VersionedProgram) (lemmas : List Numbered) (fact : Fact) (k v : ℕ) → is_among fact.uses k ≡ true → is_among (named_in (slice_get f.lines k)) v ≡ true → is_among (fact_variables f.lines lemmas fact) v ≡ true
used_named f lemmas fact k v u m =
    let uses = flat_map (λ j. named_in (slice_get f.lines j)) fact.uses in
    let hyps = flat_map (hyp_variables f.lines lemmas) fact.hyps in
    let cube = bit_variables fact.cube in
    let claims = claim_variables f.lines fact.claim in
    among_left (uses ++ hyps ++ cube) claims v (among_left (uses ++ hyps) cube v (among_left uses hyps v (flat_into (λ j. named_in (slice_get f.lines j)) fact.uses k v u m)))

step_agrees : (f : VersionedProgram) (lemmas : List Numbered) (fact : Fact) (a b : List ℤ) (k v : ℕ) (i : Instr) → IsWellFormed f → Assigns f fact a → Assigns f fact b → FreeAgree f lemmas fact a b → AgreeBelow f fact a b k → is_among fact.uses k ≡ true → slice_get f.lines k ≡ Some (Step i) → is_among (computed_results i.op i.outs) v ≡ true → value_at a v ≡ value_at b v
step_agrees f lemmas fact a b k v i w A B free below u at m =
    let S = words_of f.variables a in
    let F = words_of f.variables b in
    let place = among_at fact.uses k u in
    let ours : IsExecuted S i = subst (λ (o : Option Line). IsExecutedAt S o) at (A.executed place.0 k place.1) in
    let theirs : IsExecuted F i = subst (λ (o : Option Line). IsExecutedAt F o) at (B.executed place.0 k place.1) in
    let names = filter_map name_of i.args in
    let read : Agree a b names = λ x e.
    named_agrees f lemmas fact a b x free
    (used_named f lemmas fact k x u (ap (λ (o : Option Line). is_among (named_in o) x) at ∙ among_right i.outs names x e))
    (λ j uses made. below j x (computed_before f j k x (Step i) w at e made) uses made) in
    let args : values_of S i.args ≡ values_of F i.args = values_local F S i.args (words_same f.variables a b names A.typed B.typed read) in
    let outs : values_at S i.outs ≡ values_at F i.outs =
    ours
    ∙ ap (λ (ns : List ℤ). results_of i.op i.ty i.amount ns) (no_choice i.op i.outs v (values_of S i.args) (choice_in S i.outs) (choice_in F i.outs) m)
    ∙ ap (λ (ns : List ℤ). results_of i.op i.ty i.amount (operands_of i.op ns (choice_in F i.outs))) args
    ∙ sym theirs in
    sym (word_value f.variables a v A.typed)
    ∙ mapped (λ x. (word_at S x).value) (λ x. (word_at F x).value) i.outs v outs (is_result i.op i.outs v m)
    ∙ word_value f.variables b v B.typed

line_agrees : (f : VersionedProgram) (lemmas : List Numbered) (fact : Fact) (a b : List ℤ) (k v : ℕ) (o : Option Line) → IsWellFormed f → Assigns f fact a → Assigns f fact b → FreeAgree f lemmas fact a b → AgreeBelow f fact a b k → is_among fact.uses k ≡ true → slice_get f.lines k ≡ o → is_among (computed_in o) v ≡ true → value_at a v ≡ value_at b v
line_agrees f lemmas fact a b k v None w A B free below u at m = absurd (cc)
line_agrees f lemmas fact a b k v (Some (Input T x)) w A B free below u at m = absurd (cc)
line_agrees f lemmas fact a b k v (Some (Pre p)) w A B free below u at m = absurd (cc)
line_agrees f lemmas fact a b k v (Some (Step i)) w A B free below u at m = step_agrees f lemmas fact a b k v i w A B free below u at m
line_agrees f lemmas fact a b k v (Some (Assert p)) w A B free below u at m = absurd (cc)
line_agrees f lemmas fact a b k v (Some (Assume p)) w A B free below u at m = absurd (cc)
line_agrees f lemmas fact a b k v (Some (Cut p)) w A B free below u at m = absurd (cc)
line_agrees f lemmas fact a b k v (Some (Post p)) w A B free below u at m = absurd (cc)

agree_below : (f : VersionedProgram) (lemmas : List Numbered) (fact : Fact) (a b : List ℤ) → IsWellFormed f → Assigns f fact a → Assigns f fact b → FreeAgree f lemmas fact a b → (k : ℕ) → AgreeBelow f fact a b k
agree_below f lemmas fact a b w A B free zero j v less u m = absurd (omega (arith, less))
agree_below f lemmas fact a b w A B free (suc k) j v less u m =
    line_agrees f lemmas fact a b j v (slice_get f.lines j) w A B free
    (λ i x before uses made. agree_below f lemmas fact a b w A B free k i x (omega (arith, before, less)) uses made) u refl m

pub assignments_agree : (f : VersionedProgram) (lemmas : List Numbered) (fact : Fact) (a b : List ℤ) → IsWellFormed f → Assigns f fact a → Assigns f fact b → FreeAgree f lemmas fact a b → Agree a b (fact_variables f.lines lemmas fact)
assignments_agree f lemmas fact a b w A B free v m =
    named_agrees f lemmas fact a b v free m (λ j u made. agree_below f lemmas fact a b w A B free (suc j) j v (omega arith) u made)
