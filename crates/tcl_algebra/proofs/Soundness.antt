-- The laws of the equations.
use Rattle.std.proofs.Common.{◌≡◌, ℕ, ◌^◌, sym, ◌∙◌, ap, subst, ℤ, true, nat_lt, List, [], ◌∷◌, refl, map, Option, Some, None}
use Rattle.std.specs.List.{list_all}
use Rattle.tcl_ring.specs.Reduction.{reduced_by, IsModulus}
use Rattle.tcl_ring.proofs.Reductions.{is_reduction}
use Rattle.tcl_poly.specs.Polynomial.{terms_of, value_of}
use Rattle.tcl_poly.proofs.TermLists.{terms_itself}
use Rattle.tcl_poly.specs.Combination.{Terms, combination_of}
use Rattle.tcl_lang.specs.declared.term.AlgPred.{AlgPred}
use Rattle.tcl_lang.specs.declared.pred.Pred.{Pred}
use Rattle.tcl_lang.specs.declared.pred.Pred.TheVariants.{Alg, Rng}
use Rattle.tcl_reduce.specs.Equated.{Equated}
use Rattle.tcl_lang.specs.Program.{VersionedProgram}
use Rattle.tcl_lang.specs.Names.{predicate_names}
use Rattle.tcl_lang.specs.Form.{IsWellFormed}
use Rattle.tcl_lang.specs.Values.{words_of}
use Rattle.tcl_goals.specs.declared.fact.Claim.{Claim}
use Rattle.tcl_goals.specs.declared.fact.Claim.TheVariants as claim
use Rattle.tcl_goals.specs.declared.fact.Fact.{Fact}
use Rattle.tcl_goals.specs.declared.lemma.Numbered.{Numbered}
use Rattle.tcl_goals.specs.Places.{goal_place}
use Rattle.tcl_goals.specs.Assignments.{claim_of, HoldsOfAll}
use Rattle.tcl_algebra.proofs.Stores.{truth_same}
use Rattle.tcl_term_poly.specs.Point.{point_of}
use Rattle.tcl_algebra.specs.Equations.{Placed, polynomials_of, equations_of, claim_predicate, modulus_of, claim_polynomial}
use Rattle.tcl_algebra.specs.Ends.{equation_in, claim_equation, AreEquationsOf}
use Rattle.tcl_algebra.specs.Laws.{EquationsVanish, CombinationsProve}
use Rattle.tcl_algebra.proofs.AllEquations.{IsMet, quotients_of, equations_zero}
use Rattle.tcl_algebra.proofs.Combining.{goal_in, combination_zero, claim_holds}
use Rattle.tcl_algebra.proofs.Assigned.{assignment_met}

pub equations_vanish : EquationsVanish
equations_vanish m p lemmas fact values ok form assigns hyps =
    let store = words_of p.variables values in
    (quotients_of p store, equations_zero m ok p lemmas fact store (assignment_met p lemmas fact values form assigns hyps))

claim_narrow : (p : VersionedProgram) (lemmas : List Numbered) (fact : Fact) (values : List ℤ) (f : AlgPred) → IsMet p lemmas fact (words_of p.variables values) → (c : Claim) → claim_predicate p c ≡ Some (Alg f) → list_all (λ v. nat_lt v (2 ^ 32)) (predicate_names (Alg f)) ≡ true
claim_narrow p lemmas fact values f met (claim.Goal i) e = met.narrow (goal_place p.lines i) (Alg f) e
claim_narrow p lemmas fact values f met (claim.Lemma m) e = absurd (cc)

claimed : (p : VersionedProgram) (values : List ℤ) (c : Claim) (f : AlgPred) → claim_predicate p c ≡ Some (Alg f) → goal_in p (words_of p.variables values) c ≡ true → claim_of p values c ≡ true
claimed p values (claim.Goal i) f is e = truth_same p values (goal_place p.lines i) ∙ e
claimed p values (claim.Lemma m) f is e = absurd (cc)

-- a claim whose polynomial is a combination of the equations holds
pub cofactors_prove : {E : Type 0} (value : E → ℤ) (p : VersionedProgram) (lemmas : List Numbered) (fact : Fact) (f : AlgPred) (list : List (Terms E)) (cofactors : List (ℕ × Terms E)) → IsWellFormed p → claim_predicate p fact.claim ≡ Some (Alg f) → IsModulus (modulus_of f.modulus) → map (terms_of value) list ≡ polynomials_of (equations_of (modulus_of f.modulus) p lemmas fact) → claim_polynomial (reduced_by (modulus_of f.modulus)) f ≡ combination_of (reduced_by (modulus_of f.modulus)) value list cofactors → HoldsOfAll p lemmas fact
unfolding HoldsOfAll
cofactors_prove value p lemmas fact f list cofactors form is ok same kept values assigns hyps cube =
    let m = modulus_of f.modulus in
    let r = reduced_by m in
    let store = words_of p.variables values in
    let met = assignment_met p lemmas fact values form assigns hyps in
    let point = point_of store (quotients_of p store) in
    let es = equations_of m p lemmas fact in
    claimed p values fact.claim f is (claim_holds p store (quotients_of p store) fact.claim f is ok (claim_narrow p lemmas fact values f met fact.claim is)
    (ap (λ s. r (value_of point s)) kept
    ∙ combination_zero r (is_reduction m ok) value point es list cofactors (equations_zero m ok p lemmas fact store met) same))

all_same : (es : List Placed) → map (terms_of (λ n. n)) (polynomials_of es) ≡ polynomials_of es
all_same [] = refl
all_same (e ∷ es) = (λ i. terms_itself e.1 i ∷ all_same es i)

pub combinations_prove : CombinationsProve
combinations_prove p lemmas fact f cofactors form is ok kept =
    let es = equations_of (modulus_of f.modulus) p lemmas fact in
    cofactors_prove (λ n. n) p lemmas fact f (polynomials_of es) cofactors form is ok (all_same es) kept

-- the same of the equations that the code holds
equation_is : (o : Option Pred) (f : AlgPred) → equation_in o ≡ Some f → o ≡ Some (Alg f)
equation_is None f e = absurd (cc)
equation_is (Some (Alg g)) f e = cc
equation_is (Some (Rng g)) f e = absurd (cc)

pub equations_prove : {R E : Type 0} (m : Option ℕ) (value : E → ℤ) (p : VersionedProgram) (lemmas : List Numbered) (fact : Fact) (f : AlgPred) (q : Equated R E) (cofactors : List (ℕ × Terms E)) → IsWellFormed p → claim_equation p fact.claim ≡ Some f → modulus_of f.modulus ≡ m → IsModulus m → AreEquationsOf m value p lemmas fact f q → terms_of value q.claim ≡ combination_of (reduced_by m) value q.list cofactors → HoldsOfAll p lemmas fact
equations_prove m value p lemmas fact f q cofactors form is ring =
    subst (λ k. IsModulus k → AreEquationsOf k value p lemmas fact f q → terms_of value q.claim ≡ combination_of (reduced_by k) value q.list cofactors → HoldsOfAll p lemmas fact) ring
    (λ ok are kept. cofactors_prove value p lemmas fact f q.list cofactors form (equation_is (claim_predicate p fact.claim) f is) ok are.list (sym are.claim ∙ kept))
