-- Laws of the equations of a fact.
use Rattle.std.specs.Prelude.{◌≡◌, ℕ, ℤ, true, List, Option, Some}
use Rattle.std.specs.List.{list_all}
use Rattle.tcl_ring.specs.Reduction.{reduced_by, IsModulus}
use Rattle.tcl_poly.specs.Polynomial.{Polynomial}
use Rattle.tcl_poly.specs.Combination.{combination_of}
use Rattle.tcl_lang.specs.declared.term.AlgPred.{AlgPred}
use Rattle.tcl_lang.specs.declared.pred.Pred.TheVariants.{Alg}
use Rattle.tcl_lang.specs.Program.{VersionedProgram}
use Rattle.tcl_lang.specs.Form.{IsWellFormed}
use Rattle.tcl_lang.specs.Values.{words_of}
use Rattle.tcl_goals.specs.declared.fact.Fact.{Fact}
use Rattle.tcl_goals.specs.declared.lemma.Numbered.{Numbered}
use Rattle.tcl_goals.specs.Assignments.{Assigns, hyp_of, HoldsOfAll}
use Rattle.tcl_term_poly.specs.Point.{point_of}
use Rattle.tcl_algebra.specs.Equations.{polynomials_of, equations_of, claim_predicate, modulus_of, claim_polynomial}
use Rattle.tcl_algebra.specs.Zero.{AreZero}

-- in an assignment that meets the hypotheses all equations are 0, for some values of the unknowns of lines
abbrev pub EquationsVanish : Type 0
EquationsVanish =
    (m : Option ℕ) (p : VersionedProgram) (lemmas : List Numbered) (fact : Fact) (values : List ℤ) → IsModulus m →
    IsWellFormed p → Assigns p fact values → list_all (hyp_of p lemmas values) fact.hyps ≡ true →
    (quotients : ℕ → ℤ) × AreZero (reduced_by m) (point_of (words_of p.variables values) quotients) (equations_of m p lemmas fact)

-- so a claim whose polynomial is a combination of the equations, in its ring, holds
abbrev pub CombinationsProve : Type 0
CombinationsProve =
    (p : VersionedProgram) (lemmas : List Numbered) (fact : Fact) (f : AlgPred) (cofactors : List (ℕ × Polynomial)) → IsWellFormed p →
    claim_predicate p fact.claim ≡ Some (Alg f) → IsModulus (modulus_of f.modulus) →
    claim_polynomial (reduced_by (modulus_of f.modulus)) f
    ≡ combination_of (reduced_by (modulus_of f.modulus)) (λ n. n) (polynomials_of (equations_of (modulus_of f.modulus) p lemmas fact)) cofactors →
    HoldsOfAll p lemmas fact
