-- The equations as the code holds them: what is reduced, and what its end says.
use Rattle.std.proofs.Common.{◌≡◌, ℕ, ◌≤◌, refl, sym, ◌∙◌, ap, subst, arith, true, List, ℤ, Option, Some, None, is_some, Result, Ok, Err, IfOk}
use Rattle.tcl_ring.specs.Reduction.{IsModulus, reduced_by}
use Rattle.tcl_poly.specs.Polynomial.{Polynomial, IsOver, terms_of, degree_of}
use Rattle.tcl_poly.specs.Combination.{Terms}
use Rattle.tcl_poly.proofs.TermLists.{degree_of_values}
use Rattle.tcl_lang.specs.declared.term.AlgPred.{AlgPred}
use Rattle.tcl_lang.specs.Program.{VersionedProgram}
use Rattle.tcl_lang.specs.Form.{IsWellFormed}
use Rattle.tcl_goals.specs.declared.fact.Fact.{Fact}
use Rattle.tcl_goals.specs.declared.lemma.Numbered.{Numbered}
use Rattle.tcl_reduce.specs.Reduction.{Definition, reduced_of}
use Rattle.tcl_reduce.specs.Reduction.Reduced.{Done}
use Rattle.tcl_reduce.specs.Answer as reduce
use Rattle.tcl_reduce.specs.Definitions.{Defined}
use Rattle.tcl_reduce.specs.Equated.{Equated}
use Rattle.tcl_reduce.specs.Remainder.{AreDefinitions}
use Rattle.tcl_algebra.specs.Equations.{Begins, definitions_of, modulus_of, claim_polynomial, claim_begins}
use Rattle.tcl_algebra.specs.Ends.{claim_equation, AreEquationsOf}
use Rattle.tcl_plain.specs.Named.{IsReadable}
use Rattle.tcl_plain.specs.declared.outcome.Outcome.{Outcome}
use Rattle.tcl_plain.specs.Plain.{end_in, plain_end, outcome_by, outcome_of}
use Rattle.tcl_plain.proofs.FactNames.{fact_readable}
use Rattle.tcl_plain.proofs.Proving.{IsKept, end_kept}

abbrev IsToReduce : {R E : Type 0} → (R → Option ℕ) → (R → E → ℤ) → R → List (Defined E) → Terms E → Type 0
IsToReduce modulus amount ring defs claim =
    IsModulus (modulus ring)
    × AreDefinitions (reduced_by (modulus ring)) (reduce.definitions_of (amount ring) defs)
    × IsOver (modulus ring) (amount ring) claim
    × (degree_of claim ≤ 1024)
    × IsReadable (modulus ring) (reduce.definitions_of (amount ring) defs) (terms_of (amount ring) claim)

pub read_kept : {R E : Type 0} (modulus : R → Option ℕ) (amount : R → E → ℤ) (ring own : R) (defs held : List (Defined E)) (claim polynomial : Terms E) (rest : Polynomial) (cs : List (ℕ × Polynomial)) (spent : ℕ) → ring ≡ own → defs ≡ held → claim ≡ polynomial → IsModulus (modulus own) → AreDefinitions (reduced_by (modulus own)) (reduce.definitions_of (amount own) held) → IsOver (modulus own) (amount own) polynomial → degree_of polynomial ≤ 1024 → IsReadable (modulus own) (reduce.definitions_of (amount own) held) (terms_of (amount own) polynomial) → reduced_of (modulus ring) (reduce.definitions_of (amount ring) defs) (terms_of (amount ring) claim) ≡ Done rest cs spent → IsKept (modulus ring) rest cs
read_kept {R} {E} modulus amount ring own defs held claim polynomial rest cs spent same_ring same_defs same_claim ok over form degree readable is =
    let P : R × List (Defined E) × Terms E → Type 0 = λ x. IsToReduce modulus amount x.0 x.1 x.2 in
    let path : (ring, defs, claim) ≡ (own, held, polynomial) = λ i. (same_ring i, same_defs i, same_claim i) in
    let here = subst P (sym path) (ok, over, form, degree, readable) in
    end_kept (modulus ring) here.0 (reduce.definitions_of (amount ring) defs) (terms_of (amount ring) claim) rest cs spent here.1 here.2
    (omega (arith, degree_of_values (amount ring) claim, here.3)) here.4 is

some_of : (o : Option AlgPred) → is_some o ≡ true → (f : AlgPred) × (o ≡ Some f)
some_of None e = absurd (cc)
some_of (Some f) e = (f, refl)

equations_readable : {R E : Type 0} (modulus : R → Option ℕ) (amount : R → E → ℤ) (ring : R) (p : VersionedProgram) (lemmas : List Numbered) (fact : Fact) (f : AlgPred) (q : Equated R E) → IsWellFormed p → claim_equation p fact.claim ≡ Some f → claim_begins f ≡ Begins.Ready → modulus ring ≡ modulus_of f.modulus → AreEquationsOf (modulus ring) (amount ring) p lemmas fact f q → q.ring ≡ ring → IsReadable (modulus q.ring) (reduce.definitions_of (amount q.ring) q.defs) (terms_of (amount q.ring) q.claim)
equations_readable {R} {E} modulus amount ring p lemmas fact f q w claim begins same are own =
    let P : Option ℕ → Type 0 = λ m. IsReadable m (definitions_of m p fact) (claim_polynomial (reduced_by m) f) in
    let Q : List Definition × Polynomial → Type 0 = λ x. IsReadable (modulus ring) x.0 x.1 in
    let S : R → Type 0 = λ z. IsReadable (modulus z) (reduce.definitions_of (amount z) q.defs) (terms_of (amount z) q.claim) in
    let path : (reduce.definitions_of (amount ring) q.defs, terms_of (amount ring) q.claim) ≡ (definitions_of (modulus ring) p fact, claim_polynomial (reduced_by (modulus ring)) f) = λ i. (are.defs i, are.claim i) in
    subst S (sym own) (subst Q (sym path) (subst P (sym same) (fact_readable p fact f w claim begins)))

pub claim_readable : {R E : Type 0} (modulus : R → Option ℕ) (amount : R → E → ℤ) (ring : R) (p : VersionedProgram) (lemmas : List Numbered) (fact : Fact) (q : Equated R E) → IsWellFormed p → is_some (claim_equation p fact.claim) ≡ true → ((f : AlgPred) → claim_equation p fact.claim ≡ Some f → claim_begins f ≡ Begins.Ready) → ((f : AlgPred) → claim_equation p fact.claim ≡ Some f → modulus ring ≡ modulus_of f.modulus) → ((f : AlgPred) → claim_equation p fact.claim ≡ Some f → AreEquationsOf (modulus ring) (amount ring) p lemmas fact f q) → q.ring ≡ ring → IsReadable (modulus q.ring) (reduce.definitions_of (amount q.ring) q.defs) (terms_of (amount q.ring) q.claim)
claim_readable modulus amount ring p lemmas fact q w some begins same are own =
    let found = some_of (claim_equation p fact.claim) some in
    let f = found.0 in let e = found.1 in
    equations_readable modulus amount ring p lemmas fact f q w e (begins f e) (same f e) (are f e) own

pub claim_ended : {R E : Type 0} (modulus : R → Option ℕ) (amount : R → E → ℤ) (ring : R) (p : VersionedProgram) (lemmas : List Numbered) (fact : Fact) (f : AlgPred) (q : Equated R E) (o : Outcome) → claim_begins f ≡ Begins.Ready → modulus ring ≡ modulus_of f.modulus → AreEquationsOf (modulus ring) (amount ring) p lemmas fact f q → q.ring ≡ ring → o ≡ outcome_by (reduced_of (modulus q.ring) (reduce.definitions_of (amount q.ring) q.defs) (terms_of (amount q.ring) q.claim)) → o ≡ outcome_of (claim_begins f) (plain_end p fact f)
claim_ended modulus amount ring p lemmas fact f q o begins same are own is =
    let at_ring : reduced_of (modulus q.ring) (reduce.definitions_of (amount q.ring) q.defs) (terms_of (amount q.ring) q.claim) ≡ reduced_of (modulus ring) (reduce.definitions_of (amount ring) q.defs) (terms_of (amount ring) q.claim) =
    ap (λ z. reduced_of (modulus z) (reduce.definitions_of (amount z) q.defs) (terms_of (amount z) q.claim)) own in
    let at_fact : reduced_of (modulus ring) (reduce.definitions_of (amount ring) q.defs) (terms_of (amount ring) q.claim) ≡ end_in (modulus ring) p fact f =
    λ i. reduced_of (modulus ring) (are.defs i) (are.claim i) in
    is
    ∙ ap outcome_by (at_ring ∙ at_fact ∙ ap (λ m. end_in m p fact f) same)
    ∙ ap (λ b. outcome_of b (plain_end p fact f)) (sym begins)

pub if_ok : {X F : Type 0} (P Q : X → Type 0) (r : Result X F) → ((x : X) → P x → Q x) → IfOk r P → IfOk r Q
if_ok P Q (Ok x) h i = h x i
if_ok P Q (Err e) h i = i

pub own_modulus : (m n : Option ℕ) → m ≡ n → IsModulus m → IsModulus n
own_modulus m n e h = subst IsModulus e h
