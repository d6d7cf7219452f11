-- Values that agree on the variables that a fact names: all that the fact says is the same in both.
use Rattle.std.proofs.Common.{◌≡◌, ℕ, zero, suc, ◌<◌, refl, ◌∙◌, ap, subst, arith, ℤ, true, ◌||◌, ◌&&◌, not, if◌then◌else◌, nat_eq, List, [], ◌∷◌, ◌++◌, length, get_or, All, Option, Some, None}
use Rattle.std.specs.List.{slice_get, list_all, flat_map}
use Rattle.std.proofs.lemmas.Bool.Decides.{nat_tests}
use Rattle.std.proofs.lemmas.List.Concat.{flat_map-cons}
use Rattle.std.proofs.lemmas.List.Folds.{list_any-append}
use Rattle.tcl_list.proofs.Booleans.{or_left, or_right}
use Rattle.tcl_lang.specs.declared.ty.Word.{Word}
use Rattle.tcl_lang.specs.declared.pred.Line.{Line}
use Rattle.tcl_lang.specs.declared.variable.Variable.{Variable}
use Rattle.tcl_lang.specs.Program.{VersionedProgram}
use Rattle.tcl_lang.specs.Store.{word_at}
use Rattle.tcl_lang.specs.Names.{used_names}
use Rattle.tcl_lang.specs.Goal.{truth_in}
use Rattle.tcl_lang.specs.Values.{value_at, AreValues, words_of, truth_of}
use Rattle.tcl_lang.specs.Defined.{is_among}
use Rattle.tcl_lang.proofs.Locality.{line_local}
use Rattle.tcl_goals.specs.declared.fact.Hyp.{Hyp}
use Rattle.tcl_goals.specs.declared.fact.Hyp.TheVariants as hyp
use Rattle.tcl_goals.specs.declared.fact.BitLit.{BitLit}
use Rattle.tcl_goals.specs.declared.fact.Claim.{Claim}
use Rattle.tcl_goals.specs.declared.fact.Claim.TheVariants as claim
use Rattle.tcl_goals.specs.declared.fact.Fact.{Fact}
use Rattle.tcl_goals.specs.declared.lemma.Lemma.{Lemma}
use Rattle.tcl_goals.specs.declared.lemma.Numbered.{Numbered}
use Rattle.tcl_goals.specs.LemmaList.{lemma_of}
use Rattle.tcl_goals.specs.Places.{goal_place}
use Rattle.tcl_goals.specs.Slices.{read_in, named_in}
use Rattle.tcl_goals.specs.Holds.{bit_of, bit_holds, clause_holds, cube_holds, lemma_holds}
use Rattle.tcl_goals.specs.Free.{bit_variables, lemma_variables, hyp_variables, claim_variables, fact_variables}
use Rattle.tcl_goals.specs.Assignments.{hyp_of, cube_of, claim_of}
use Rattle.tcl_enum.specs.Enumeration.{is_denied}

-- the values agree on these variables
abbrev pub Agree : List ℤ → List ℤ → List ℕ → Type 0
Agree a b vs = (v : ℕ) → is_among vs v ≡ true → value_at a v ≡ value_at b v

among_append : (xs ys : List ℕ) (v : ℕ) → is_among (xs ++ ys) v ≡ (is_among xs v || is_among ys v)
among_append xs ys v = list_any-append (λ u. nat_eq u v) xs ys

pub among_left : (xs ys : List ℕ) (v : ℕ) → is_among xs v ≡ true → is_among (xs ++ ys) v ≡ true
among_left xs ys v e = among_append xs ys v ∙ or_left (is_among xs v) (is_among ys v) e

pub among_right : (xs ys : List ℕ) (v : ℕ) → is_among ys v ≡ true → is_among (xs ++ ys) v ≡ true
among_right xs ys v e = among_append xs ys v ∙ or_right (is_among xs v) (is_among ys v) e

pub agree_left : (a b : List ℤ) (xs ys : List ℕ) → Agree a b (xs ++ ys) → Agree a b xs
agree_left a b xs ys h v e = h v (among_left xs ys v e)

pub agree_right : (a b : List ℤ) (xs ys : List ℕ) → Agree a b (xs ++ ys) → Agree a b ys
agree_right a b xs ys h v e = h v (among_right xs ys v e)

pub agree_flat : {X : Type 0} (a b : List ℤ) (f : X → List ℕ) (x : X) (xs : List X) → Agree a b (flat_map f (x ∷ xs)) → Agree a b (f x) × Agree a b (flat_map f xs)
agree_flat a b f x xs h =
    let both : Agree a b (f x ++ flat_map f xs) = subst (λ (vs : List ℕ). Agree a b vs) (flat_map-cons f x xs) h in
    (agree_left a b (f x) (flat_map f xs) both, agree_right a b (f x) (flat_map f xs) both)

-- what is said of each member is said of each item
first : (v : ℕ) (vs : List ℕ) → is_among (v ∷ vs) v ≡ true
first v vs = or_left (nat_eq v v) (is_among vs v) (self v)
  where
    self : (n : ℕ) → nat_eq n n ≡ true
    self n = grind (arith, nat_tests)

pub item_among : (vs : List ℕ) (k d : ℕ) → k < length vs → is_among vs (get_or vs k d) ≡ true
item_among [] k d h = absurd (omega arith)
item_among (v ∷ vs) zero d h = first v vs
item_among (v ∷ vs) (suc k) d h = or_right (nat_eq v (get_or vs k d)) (is_among vs (get_or vs k d)) (item_among vs k d (omega arith))

-- a word is given by its variable and its value
pub word_same : (vs : List Variable) (a b : List ℤ) (v : ℕ) → AreValues vs a → AreValues vs b → value_at a v ≡ value_at b v → word_at (words_of vs a) v ≡ word_at (words_of vs b) v
word_same [] [] [] v p q e = refl
word_same [] [] (n ∷ b) v p q e = absurd q
word_same [] (m ∷ a) b v p q e = absurd p
word_same (x ∷ vs) [] b v p q e = absurd p
word_same (x ∷ vs) (m ∷ a) [] v p q e = absurd q
word_same (x ∷ vs) (m ∷ a) (n ∷ b) zero p q e = ap (λ (z : ℤ). record { ty = x.ty; value = z }) e
word_same (x ∷ vs) (m ∷ a) (n ∷ b) (suc v) p q e = word_same vs a b v p.1 q.1 e

pub word_value : (vs : List Variable) (a : List ℤ) (v : ℕ) → AreValues vs a → (word_at (words_of vs a) v).value ≡ value_at a v
word_value [] [] v p = refl
word_value [] (m ∷ a) v p = absurd p
word_value (x ∷ vs) [] v p = absurd p
word_value (x ∷ vs) (m ∷ a) zero p = refl
word_value (x ∷ vs) (m ∷ a) (suc v) p = word_value vs a v p.1

pub words_same : (vs : List Variable) (a b : List ℤ) (xs : List ℕ) → AreValues vs a → AreValues vs b → Agree a b xs → All (λ x. word_at (words_of vs a) x ≡ word_at (words_of vs b) x) xs
words_same vs a b xs p q h k d less = word_same vs a b (get_or xs k d) p q (h (get_or xs k d) (item_among xs k d less))

-- lines
in_same : (vs : List Variable) (a b : List ℤ) (o : Option Line) → AreValues vs a → AreValues vs b → Agree a b (read_in o) → truth_in (words_of vs a) o ≡ truth_in (words_of vs b) o
in_same vs a b None p q h = refl
in_same vs a b (Some l) p q h = line_local (words_of vs b) (words_of vs a) l (words_same vs a b (used_names l) p q h)

pub line_same : (f : VersionedProgram) (a b : List ℤ) (k : ℕ) → AreValues f.variables a → AreValues f.variables b → Agree a b (read_in (slice_get f.lines k)) → truth_of f a k ≡ truth_of f b k
unfolding truth_of
line_same f a b k p q h = in_same f.variables a b (slice_get f.lines k) p q h

-- bits
bit_same : (vs : List Variable) (a b : List ℤ) (bit : BitLit) → AreValues vs a → AreValues vs b → value_at a bit.var ≡ value_at b bit.var → bit_holds (words_of vs a) bit ≡ bit_holds (words_of vs b) bit
bit_same vs a b bit p q e =
    ap (λ (w : Word). if bit.value then bit_of w bit.bit else not (bit_of w bit.bit)) (word_same vs a b bit.var p q e)

pub cube_same : (vs : List Variable) (a b : List ℤ) (bits : List BitLit) → AreValues vs a → AreValues vs b → Agree a b (bit_variables bits) → cube_holds (words_of vs a) bits ≡ cube_holds (words_of vs b) bits
cube_same vs a b [] p q h = refl
cube_same vs a b (bit ∷ bits) p q h =
    ap (λ x. x && cube_holds (words_of vs a) bits) (bit_same vs a b bit p q (h bit.var (first bit.var (bit_variables bits))))
    ∙ ap (λ x. bit_holds (words_of vs b) bit && x)
    (cube_same vs a b bits p q (λ v e. h v (or_right (nat_eq bit.var v) (is_among (bit_variables bits) v) e)))

pub clause_same : (vs : List Variable) (a b : List ℤ) (bits : List BitLit) → AreValues vs a → AreValues vs b → Agree a b (bit_variables bits) → clause_holds (words_of vs a) bits ≡ clause_holds (words_of vs b) bits
clause_same vs a b [] p q h = refl
clause_same vs a b (bit ∷ bits) p q h =
    ap (λ x. x || clause_holds (words_of vs a) bits) (bit_same vs a b bit p q (h bit.var (first bit.var (bit_variables bits))))
    ∙ ap (λ x. bit_holds (words_of vs b) bit || x)
    (clause_same vs a b bits p q (λ v e. h v (or_right (nat_eq bit.var v) (is_among (bit_variables bits) v) e)))

lemma_same : (vs : List Variable) (a b : List ℤ) (o : Option Lemma) → AreValues vs a → AreValues vs b → Agree a b (lemma_variables o) → lemma_holds (words_of vs a) o ≡ lemma_holds (words_of vs b) o
lemma_same vs a b None p q h = refl
lemma_same vs a b (Some m) p q h = clause_same vs a b m.clause p q h

-- hypotheses and claims
hyp_same : (f : VersionedProgram) (lemmas : List Numbered) (a b : List ℤ) (h : Hyp) → AreValues f.variables a → AreValues f.variables b → Agree a b (hyp_variables f.lines lemmas h) → hyp_of f lemmas a h ≡ hyp_of f lemmas b h
hyp_same f lemmas a b (hyp.Line k) p q g = line_same f a b k p q g
hyp_same f lemmas a b (hyp.Lemma n) p q g = lemma_same f.variables a b (lemma_of lemmas n) p q g

hyps_same : (f : VersionedProgram) (lemmas : List Numbered) (a b : List ℤ) (hyps : List Hyp) → AreValues f.variables a → AreValues f.variables b → Agree a b (flat_map (hyp_variables f.lines lemmas) hyps) → list_all (hyp_of f lemmas a) hyps ≡ list_all (hyp_of f lemmas b) hyps
hyps_same f lemmas a b [] p q g = refl
hyps_same f lemmas a b (h ∷ hyps) p q g =
    let both = agree_flat a b (hyp_variables f.lines lemmas) h hyps g in
    ap (λ x. x && list_all (hyp_of f lemmas a) hyps) (hyp_same f lemmas a b h p q both.0)
    ∙ ap (λ x. hyp_of f lemmas b h && x) (hyps_same f lemmas a b hyps p q both.1)

claim_same : (f : VersionedProgram) (a b : List ℤ) (c : Claim) → AreValues f.variables a → AreValues f.variables b → Agree a b (claim_variables f.lines c) → claim_of f a c ≡ claim_of f b c
claim_same f a b (claim.Goal i) p q g = line_same f a b (goal_place f.lines i) p q g
claim_same f a b (claim.Lemma m) p q g = clause_same f.variables a b m.clause p q g

-- a fact is denied by both or by neither
pub denied_same : (f : VersionedProgram) (lemmas : List Numbered) (fact : Fact) (a b : List ℤ) → AreValues f.variables a → AreValues f.variables b → Agree a b (fact_variables f.lines lemmas fact) → is_denied f lemmas fact a ≡ is_denied f lemmas fact b
denied_same f lemmas fact a b p q g =
    let uses = flat_map (λ k. named_in (slice_get f.lines k)) fact.uses in
    let hyps = flat_map (hyp_variables f.lines lemmas) fact.hyps in
    let cube = bit_variables fact.cube in
    let claims = claim_variables f.lines fact.claim in
    let front : Agree a b (uses ++ hyps ++ cube) = agree_left a b (uses ++ hyps ++ cube) claims g in
    let heads : Agree a b (uses ++ hyps) = agree_left a b (uses ++ hyps) cube front in
    ap (λ x. x && cube_of f a fact.cube && not (claim_of f a fact.claim)) (hyps_same f lemmas a b fact.hyps p q (agree_right a b uses hyps heads))
    ∙ ap (λ x. list_all (hyp_of f lemmas b) fact.hyps && x && not (claim_of f a fact.claim)) (cube_same f.variables a b fact.cube p q (agree_right a b (uses ++ hyps) cube front))
    ∙ ap (λ x. list_all (hyp_of f lemmas b) fact.hyps && cube_of f b fact.cube && not x) (claim_same f a b fact.claim p q (agree_right a b (uses ++ hyps ++ cube) claims g))
