-- A fact holds by cases, and the tests of cases are exact.
use Rattle.std.proofs.Common.{◌≡◌, suc, arith, ◌↔◌, inl, inr, ◌≤◌, ℕ, ◌==◌, nat_le, eqb-true, eq-eqb, refl, sym, ◌∙◌, ap, subst, Bool, true, false, not, ◌&&◌, if◌then◌else◌, ℤ, All, List, [], ◌∷◌, Option, Some, None, IsTrue}
use Rattle.std.specs.List.{list_all, list_any}
use Rattle.std.proofs.lemmas.Bool.{and_parts, and_from, le-leb, leb-true}
use Rattle.std.proofs.lemmas.List.Elements.{All-nil, All-cons}
use Rattle.tcl_list.proofs.Booleans.{or_cases}
use Rattle.tcl_lang.specs.Program.{VersionedProgram}
use Rattle.tcl_lang.specs.Store.{word_at}
use Rattle.tcl_lang.specs.Form.{end_store}
use Rattle.tcl_lang.specs.Run.{Fits, taken_types}
use Rattle.tcl_goals.specs.declared.fact.BitLit.{BitLit}
use Rattle.tcl_goals.specs.declared.fact.Claim.{Claim}
use Rattle.tcl_goals.specs.declared.fact.Claim.TheVariants as claim
use Rattle.tcl_goals.specs.declared.fact.Fact.{Fact}
use Rattle.tcl_goals.specs.declared.fact.Hyp.{Hyp}
use Rattle.tcl_goals.specs.declared.fact.Hyp.TheVariants as hyp
use Rattle.tcl_goals.specs.declared.lemma.Numbered.{Numbered}
use Rattle.tcl_goals.specs.Holds.{bit_of, hyp_holds, claim_holds, FactHolds}
use Rattle.tcl_goals.specs.Keys.{claim_place}
use Rattle.tcl_goals.specs.Order.{InOrder, same_bit, bits_differ, is_bit_before}
use Rattle.tcl_cubes.specs.Covering.{Assignment, meets, differ, count_bits, are_covering}
use Rattle.tcl_cubes.proofs.Splitting.{splits_decide}
use Rattle.tcl_kernel.specs.declared.facts.NumberedFact.{NumberedFact}
use Rattle.tcl_kernel.specs.declared.reason.Reason.TheVariants as reason
use Rattle.tcl_kernel.specs.Shown.{Stands}
use Rattle.tcl_kernel.specs.Reasons.{unless}
use Rattle.tcl_kernel.specs.CasesCertificate.{fact_of, same_literal, same_literals, same_claim, same_hyp, has_hyp, has_use, is_agreed, is_part, IsCase, is_case_of, is_case, cube_in, cube_of, cubes_of, CasesCheck, are_cases, cases_reason}

-- of all, the first and the others
pub all_first : {X : Type 0} (P : X → Type 0) (x : X) (xs : List X) → All P (x ∷ xs) → P x
all_first P x xs h = h 0 x (omega arith)

pub all_others : {X : Type 0} (P : X → Type 0) (x : X) (xs : List X) → All P (x ∷ xs) → All P xs
all_others P x xs h = λ k d l. h (suc k) d (omega (arith, l))

-- the tests of sameness decide
same_value : (s t : Bool) → not (differ s t) ≡ true → s ≡ t
same_value true true e = refl
same_value true false e = absurd (cc)
same_value false true e = absurd (cc)
same_value false false e = refl

value_same : (s : Bool) → not (differ s s) ≡ true
value_same true = refl
value_same false = refl

literal_is : (a b : BitLit) → same_literal a b ≡ true → a ≡ b
literal_is a b e =
    let parts = and_parts (same_bit a b) (not (differ a.value b.value)) e in
    let bit = and_parts (a.var == b.var) (a.bit == b.bit) parts.0 in
    let var : a.var ≡ b.var = eqb-true a.var b.var bit.0 in
    let number : a.bit ≡ b.bit = eqb-true a.bit b.bit bit.1 in
    let value : a.value ≡ b.value = same_value a.value b.value parts.1 in
    ap (λ x. record { var = x; bit = a.bit; value = a.value }) var
    ∙ ap (λ x. record { var = b.var; bit = x; value = a.value }) number
    ∙ ap (λ x. record { var = b.var; bit = b.bit; value = x }) value

literal_same : (a : BitLit) → same_literal a a ≡ true
literal_same a = and_from _ _ (and_from _ _ (eq-eqb a.var a.var refl) (eq-eqb a.bit a.bit refl)) (value_same a.value)

literals_are : (xs ys : List BitLit) → same_literals xs ys ≡ true → xs ≡ ys
unfolding same_literals
literals_are [] [] e = refl
literals_are [] (b ∷ ys) e = absurd (cc)
literals_are (a ∷ xs) [] e = absurd (cc)
literals_are (a ∷ xs) (b ∷ ys) e =
    let parts = and_parts (same_literal a b) (same_literals xs ys) e in
    ap (λ x. x ∷ xs) (literal_is a b parts.0) ∙ ap (λ zs. b ∷ zs) (literals_are xs ys parts.1)

literals_same : (xs : List BitLit) → same_literals xs xs ≡ true
unfolding same_literals
literals_same [] = refl
literals_same (a ∷ xs) = and_from _ _ (literal_same a) (literals_same xs)

pub claim_is : (a b : Claim) → same_claim a b ≡ true → a ≡ b
claim_is (claim.Goal i) (claim.Goal j) e = ap claim.Goal (eqb-true i j e)
claim_is (claim.Goal i) (claim.Lemma n) e = absurd (cc)
claim_is (claim.Lemma m) (claim.Goal j) e = absurd (cc)
claim_is (claim.Lemma m) (claim.Lemma n) e =
    let parts = and_parts (m.level == n.level) (same_literals m.clause n.clause) e in
    ap (λ x. claim.Lemma (record { level = x; clause = m.clause })) (eqb-true m.level n.level parts.0)
    ∙ ap (λ x. claim.Lemma (record { level = n.level; clause = x })) (literals_are m.clause n.clause parts.1)

claim_same : (a : Claim) → same_claim a a ≡ true
claim_same (claim.Goal i) = eq-eqb i i refl
claim_same (claim.Lemma m) = and_from _ _ (eq-eqb m.level m.level refl) (literals_same m.clause)

-- what compares claims by themselves gives the test
pub claims_told : (r : Bool) (a b : Claim) → (IsTrue r ↔ (a ≡ b)) → r ≡ same_claim a b
claims_told true a b h = sym (subst (λ x. same_claim a x ≡ true) (h.0 refl) (claim_same a))
claims_told false a b h = other (same_claim a b) refl
  where
    other : (t : Bool) → same_claim a b ≡ t → false ≡ t
    other true e = absurd (clash (h.1 (claim_is a b e)))
      where
        clash : IsTrue false → ⊥
        clash f = cc
    other false e = refl

hyp_is : (g h : Hyp) → same_hyp g h ≡ true → g ≡ h
hyp_is (hyp.Line j) (hyp.Line k) e = ap hyp.Line (eqb-true j k e)
hyp_is (hyp.Line j) (hyp.Lemma n) e = absurd (cc)
hyp_is (hyp.Lemma m) (hyp.Line k) e = absurd (cc)
hyp_is (hyp.Lemma m) (hyp.Lemma n) e = ap hyp.Lemma (eqb-true m n e)

-- what holds of all hypotheses holds of those among them
one_held : (test : Hyp → Bool) (h : Hyp) (all : List Hyp) → has_hyp all h ≡ true → list_all test all ≡ true → test h ≡ true
one_held test h [] one held = absurd (cc)
one_held test h (g ∷ all) one held =
    let parts = and_parts (test g) (list_all test all) held in
    elim (or_cases (same_hyp h g) (has_hyp all h) one) [
      | inl same ↦ ap test (hyp_is h g same) ∙ parts.0
      | inr further ↦ one_held test h all further parts.1
    ]

some_held : (test : Hyp → Bool) (some all : List Hyp) → list_all (has_hyp all) some ≡ true → list_all test all ≡ true → list_all test some ≡ true
some_held test [] all among held = refl
some_held test (h ∷ some) all among held =
    let parts = and_parts (has_hyp all h) (list_all (has_hyp all) some) among in
    and_from _ _ (one_held test h all parts.0 held) (some_held test some all parts.1 held)

-- an earlier fact that is found stands
abbrev from_some : Fact → Option Fact → Fact
from_some d None = d
from_some d (Some x) = x

found_step : (p : VersionedProgram) (lemmas : List Numbered) (f : NumberedFact) (facts : List NumberedFact) (n : ℕ) (item : Fact) → Stands p lemmas f.fact → (fact_of facts n ≡ Some item → Stands p lemmas item) → (b : Bool) → (if b then Some f.fact else fact_of facts n) ≡ Some item → Stands p lemmas item
found_step p lemmas f facts n item stands rest true e = subst (Stands p lemmas) (ap (from_some f.fact) e) stands
found_step p lemmas f facts n item stands rest false e = rest e

found_stands : (p : VersionedProgram) (lemmas : List Numbered) (facts : List NumberedFact) (n : ℕ) (item : Fact) → All (λ f. Stands p lemmas f.fact) facts → fact_of facts n ≡ Some item → Stands p lemmas item
unfolding fact_of
found_stands p lemmas [] n item all e = absurd (cc)
found_stands p lemmas (f ∷ facts) n item all e = found_step p lemmas f facts n item (all_first (λ g. Stands p lemmas g.fact) f facts all)
    (found_stands p lemmas facts n item (all_others (λ g. Stands p lemmas g.fact) f facts all)) (f.number == n) e

-- the bits of a run
abbrev bits_in : VersionedProgram → List ℤ → Assignment
bits_in p input x k = bit_of (word_at (end_store p input) x) k

-- a case whose cube is met shows the claim
case_shows : (p : VersionedProgram) (lemmas : List Numbered) (facts : List NumberedFact) (fact : Fact) (n : ℕ) (input : List ℤ) → Fits (taken_types p.lines) input → All (λ f. Stands p lemmas f.fact) facts → IsCase facts fact n → list_all (hyp_holds p lemmas input) fact.hyps ≡ true → meets (bits_in p input) (cube_of facts n) ≡ true → claim_holds p input fact.claim ≡ true
unfolding FactHolds
case_shows p lemmas facts fact n input fits all k hyps cube =
    let item = k.item in
    let part = and_parts (list_all (has_hyp fact.hyps) item.hyps) (list_all (has_use fact.uses) item.uses)
    (and_parts (list_all (has_hyp fact.hyps) item.hyps && list_all (has_use fact.uses) item.uses) (list_all (is_agreed fact.cube) item.cube) k.part).0 in
    ap (claim_holds p input) (sym k.claim)
    ∙ (found_stands p lemmas facts n item all k.found).holds input fits (some_held (hyp_holds p lemmas input) item.hyps fact.hyps part.0 hyps)
    (ap (λ o. meets (bits_in p input) (cube_in o)) (sym k.found) ∙ cube)

any_shows : (p : VersionedProgram) (lemmas : List Numbered) (facts : List NumberedFact) (fact : Fact) (items : List ℕ) (input : List ℤ) → Fits (taken_types p.lines) input → All (λ f. Stands p lemmas f.fact) facts → All (IsCase facts fact) items → list_all (hyp_holds p lemmas input) fact.hyps ≡ true → list_any (meets (bits_in p input)) (cubes_of facts items) ≡ true → claim_holds p input fact.claim ≡ true
any_shows p lemmas facts fact [] input fits all cases hyps met = absurd (cc)
any_shows p lemmas facts fact (n ∷ items) input fits all cases hyps met =
    elim (or_cases (meets (bits_in p input) (cube_of facts n)) (list_any (meets (bits_in p input)) (cubes_of facts items)) met) [
      | inl here ↦ case_shows p lemmas facts fact n input fits all (all_first (IsCase facts fact) n items cases) hyps here
      | inr further ↦ any_shows p lemmas facts fact items input fits all (all_others (IsCase facts fact) n items cases) hyps further
    ]

pub cases_sound : (p : VersionedProgram) (lemmas : List Numbered) (facts : List NumberedFact) (fact : Fact) (items : List ℕ) → All (λ f. Stands p lemmas f.fact) facts → CasesCheck facts fact items → FactHolds p lemmas fact
unfolding FactHolds
cases_sound p lemmas facts fact items all c input fits hyps cube =
    any_shows p lemmas facts fact items input fits all c.cases hyps (c.covers (bits_in p input) cube)

-- each test is exact
case_of : (facts : List NumberedFact) (fact : Fact) (n : ℕ) (o : Option Fact) → fact_of facts n ≡ o → is_case_of fact o ≡ true → IsCase facts fact n
case_of facts fact n None q e = absurd (cc)
case_of facts fact n (Some item) q e =
    let parts = and_parts (same_claim item.claim fact.claim) (is_part fact item) e in
    record { item = item; found = q; claim = claim_is item.claim fact.claim parts.0; part = parts.1 }

case_passes : (facts : List NumberedFact) (fact : Fact) (n : ℕ) → IsCase facts fact n → is_case facts fact n ≡ true
case_passes facts fact n k =
    ap (is_case_of fact) k.found
    ∙ and_from _ _ (subst (λ c. same_claim k.item.claim c ≡ true) k.claim (claim_same k.item.claim)) k.part

cases_of : (facts : List NumberedFact) (fact : Fact) (items : List ℕ) → list_all (is_case facts fact) items ≡ true → All (IsCase facts fact) items
cases_of facts fact [] e = All-nil (IsCase facts fact)
cases_of facts fact (n ∷ items) e =
    let parts = and_parts (is_case facts fact n) (list_all (is_case facts fact) items) e in
    All-cons (IsCase facts fact) n items (case_of facts fact n (fact_of facts n) refl parts.0) (cases_of facts fact items parts.1)

cases_pass : (facts : List NumberedFact) (fact : Fact) (items : List ℕ) → All (IsCase facts fact) items → list_all (is_case facts fact) items ≡ true
cases_pass facts fact [] h = refl
cases_pass facts fact (n ∷ items) h =
    and_from _ _ (case_passes facts fact n (all_first (IsCase facts fact) n items h)) (cases_pass facts fact items (all_others (IsCase facts fact) n items h))

checks_cases : (facts : List NumberedFact) (fact : Fact) (items : List ℕ) → bits_differ fact.cube ≡ true → are_cases facts fact items ≡ true → CasesCheck facts fact items
checks_cases facts fact items d e =
    let parts = and_parts (list_all (is_case facts fact) items && nat_le (count_bits (cubes_of facts items)) 22) (are_covering 22 fact.cube (cubes_of facts items)) e in
    let first = and_parts (list_all (is_case facts fact) items) (nat_le (count_bits (cubes_of facts items)) 22) parts.0 in
    let few : count_bits (cubes_of facts items) ≤ 22 = leb-true _ _ first.1 in
    record {
      cases = cases_of facts fact items first.0;
      few = few;
      covers = (splits_decide 22 fact.cube (cubes_of facts items) d few).0 parts.1;
    }

cases_check : (facts : List NumberedFact) (fact : Fact) (items : List ℕ) → bits_differ fact.cube ≡ true → CasesCheck facts fact items → are_cases facts fact items ≡ true
cases_check facts fact items d c =
    and_from _ _ (and_from _ _ (cases_pass facts fact items c.cases) (le-leb (count_bits (cubes_of facts items)) 22 c.few))
    ((splits_decide 22 fact.cube (cubes_of facts items) d c.few).1 c.covers)

differ_in : (p : VersionedProgram) (lemmas : List Numbered) (fact : Fact) → InOrder p lemmas fact → bits_differ fact.cube ≡ true
differ_in p lemmas fact o = (and_parts (bits_differ fact.cube) (list_all (is_bit_before p (claim_place p.lines fact.claim)) fact.cube) o.cube).0

unless_none : (b : Bool) → unless b reason.Cases ≡ None → b ≡ true
unless_none true e = refl
unless_none false e = absurd (cc)

pub cases_exact : (p : VersionedProgram) (lemmas : List Numbered) (facts : List NumberedFact) (fact : Fact) (items : List ℕ) → InOrder p lemmas fact → (cases_reason facts fact items ≡ None) ↔ CasesCheck facts fact items
unfolding cases_reason
cases_exact p lemmas facts fact items o = (
  λ e. checks_cases facts fact items (differ_in p lemmas fact o) (unless_none (are_cases facts fact items) e),
  λ c. ap (λ b. unless b reason.Cases) (cases_check facts fact items (differ_in p lemmas fact o) c),
)

-- so a fact against which there is no reason holds
pub cases_shown : (p : VersionedProgram) (lemmas : List Numbered) (facts : List NumberedFact) (fact : Fact) (items : List ℕ) → InOrder p lemmas fact → All (λ f. Stands p lemmas f.fact) facts → are_cases facts fact items ≡ true → FactHolds p lemmas fact
cases_shown p lemmas facts fact items o all e =
    cases_sound p lemmas facts fact items all (checks_cases facts fact items (differ_in p lemmas fact o) e)
