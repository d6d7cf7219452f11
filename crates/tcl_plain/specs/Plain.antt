-- The plain reduction of a fact's claim, and what its answers say.
use Rattle.std.specs.Prelude.{◌≡◌, ℕ, true, false, List, [], ◌∷◌, ℤ, Option}
use Rattle.tcl_port.specs.declared.limit.At.TheVariants.{Claim}
use Rattle.tcl_ring.specs.Reduction.{reduced_by, is_wide, IsModulus}
use Rattle.tcl_poly.specs.Polynomial.{Polynomial}
use Rattle.tcl_poly.specs.Combination.{combination_of, weight_of}
use Rattle.tcl_lang.specs.declared.term.AlgPred.{AlgPred}
use Rattle.tcl_lang.specs.Program.{VersionedProgram}
use Rattle.tcl_goals.specs.declared.fact.Fact.{Fact}
use Rattle.tcl_goals.specs.declared.lemma.Numbered.{Numbered}
use Rattle.tcl_reduce.specs.Reduction as reduction
use Rattle.tcl_reduce.specs.Reduction.{Reduced, reduced_of}
use Rattle.tcl_remainder.specs.declared.lines.CofactorLine.{CofactorLine}
use Rattle.tcl_remainder.specs.Terms.{summands_of}
use Rattle.tcl_remainder.specs.Lines.{lines_of, cofactors_of, are_fitting}
use Rattle.tcl_algebra.specs.Equations.{Begins, polynomials_of, equations_of, definitions_of, modulus_of, claim_polynomial, claim_begins}
use Rattle.tcl_algebra.specs.Equations as equations
use Rattle.tcl_plain.specs.declared.outcome.Outcome.{Outcome}
use Rattle.tcl_plain.specs.declared.outcome.Outcome.TheVariants.{Zero, Rest, Wide, Large}

-- how the reduction of the claim by the fact's definitions ends, in the ring of the claim
abbrev pub end_in : Option ℕ → VersionedProgram → Fact → AlgPred → Reduced
end_in m p fact f = reduced_of m (definitions_of m p fact) (claim_polynomial (reduced_by m) f)

abbrev pub plain_end : VersionedProgram → Fact → AlgPred → Reduced
plain_end p fact f = end_in (modulus_of f.modulus) p fact f

-- the answer of an end: the plain data of the cofactors where nothing is left, else of what is left
abbrev pub outcome_by : Reduced → Outcome
outcome_by (reduction.Reduced.Done [] cofactors spent) = Zero (lines_of cofactors)
outcome_by (reduction.Reduced.Done (t ∷ rest) cofactors spent) = Rest (summands_of (t ∷ rest))
outcome_by (reduction.Reduced.TooWide at) = Wide at
outcome_by (reduction.Reduced.TooLarge what n) = Large what n

-- a claim that is wide or large is not reduced
abbrev pub outcome_of : Begins → Reduced → Outcome
outcome_of equations.Begins.Ready end = outcome_by end
outcome_of equations.Begins.TooWide end = Wide Claim
outcome_of (equations.Begins.TooLarge what n) end = Large what n

-- the polynomials of the fact's equations in the ring of the claim
abbrev pub equation_polynomials : VersionedProgram → List Numbered → Fact → AlgPred → List Polynomial
equation_polynomials p lemmas fact f = polynomials_of (equations_of (modulus_of f.modulus) p lemmas fact)

-- what an integer is in the ring of the claim, and the lines' cofactors there
abbrev pub ring_of : AlgPred → ℤ → ℤ
ring_of f = reduced_by (modulus_of f.modulus)

abbrev pub ring_cofactors : AlgPred → List CofactorLine → List (ℕ × Polynomial)
ring_cofactors f lines = cofactors_of (ring_of f) lines

-- The lines show the claim: it is neither wide nor large, each cofactor has its equation among those of the fact, and their
-- degrees add to at most 1,024. Over whole numbers the sum of the products of the norms is below 2^127. The sum of the
-- products is the claim's polynomial.
pub record AreProof (p : VersionedProgram) (lemmas : List Numbered) (fact : Fact) (f : AlgPred) (lines : List CofactorLine) : Type 0 where
  pub ring : IsModulus (modulus_of f.modulus)
  pub begins : claim_begins f ≡ equations.Begins.Ready
  pub fitting : are_fitting (ring_of f) (equation_polynomials p lemmas fact f) lines ≡ true
  pub narrow : is_wide (modulus_of f.modulus) (weight_of (λ n. n) (equation_polynomials p lemmas fact f) (ring_cofactors f lines)) ≡ false
  pub sum : claim_polynomial (ring_of f) f
      ≡ combination_of (ring_of f) (λ n. n) (equation_polynomials p lemmas fact f) (ring_cofactors f lines)

-- the lines of an answer where nothing is left show the claim
abbrev pub IsProof : VersionedProgram → List Numbered → Fact → AlgPred → Outcome → Type 0
IsProof p lemmas fact f (Zero lines) = AreProof p lemmas fact f lines
IsProof p lemmas fact f (Rest rest) = Unit {0}
IsProof p lemmas fact f (Wide at) = Unit {0}
IsProof p lemmas fact f (Large what n) = Unit {0}
