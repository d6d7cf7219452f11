-- The certificate by cofactors: the polynomial of the claim is the sum of these cofactors' products with the equations of the
-- fact, in the ring of the claim.
use Rattle.std.specs.Prelude.{◌≡◌, ◌^◌, ℕ, nat_lt, nat_le, ℤ, Bool, true, false, ◌&&◌, if◌then◌else◌, List, Option, Some, None}
use Rattle.tcl_ring.specs.Reduction.{reduced_by, is_wide}
use Rattle.tcl_poly.specs.Polynomial.{Polynomial}
use Rattle.tcl_poly.specs.Combination.{combination_of, weight_of}
use Rattle.tcl_lang.specs.declared.term.AlgPred.{AlgPred}
use Rattle.tcl_lang.specs.Program.{VersionedProgram}
use Rattle.tcl_goals.specs.declared.fact.Fact.{Fact}
use Rattle.tcl_goals.specs.declared.lemma.Numbered.{Numbered}
use Rattle.tcl_remainder.specs.declared.lines.CofactorLine.{CofactorLine}
use Rattle.tcl_remainder.specs.Lines.{cofactors_of, are_fitting}
use Rattle.tcl_algebra.specs.Equations.{Begins, polynomials_of, equations_of, modulus_of, claim_polynomial, claim_begins}
use Rattle.tcl_algebra.specs.Equations.Begins.{TooWide, TooLarge, Ready}
use Rattle.tcl_algebra.specs.Ends.{claim_equation}
use Rattle.tcl_kernel.specs.declared.reason.Reason.{Reason}
use Rattle.tcl_kernel.specs.declared.reason.Reason.TheVariants as reason
use Rattle.tcl_kernel.specs.Reasons.{unless}
use Rattle.tcl_kernel.specs.SamePolynomials.{same_polynomial}

-- what an integer is in the ring of a claim: residues of its modulus, or whole numbers where it has none
abbrev pub ring_of : AlgPred → ℤ → ℤ
ring_of f = reduced_by (modulus_of f.modulus)

-- the modulus is one of a ring; so it is of each claim that is not wide
abbrev pub is_ring : Option ℕ → Bool
is_ring None = true
is_ring (Some m) = nat_lt 0 m && nat_le m (2 ^ 126)

-- the polynomials of the fact's equations in that ring, the cofactors there, the sum of their products, and that of the
-- products of their norms
abbrev pub fact_equations : VersionedProgram → List Numbered → Fact → AlgPred → List Polynomial
fact_equations p lemmas fact f = polynomials_of (equations_of (modulus_of f.modulus) p lemmas fact)

abbrev pub ring_cofactors : AlgPred → List CofactorLine → List (ℕ × Polynomial)
ring_cofactors f lines = cofactors_of (ring_of f) lines

abbrev pub sum_of_products : AlgPred → List Polynomial → List CofactorLine → Polynomial
sum_of_products f equations lines = combination_of (ring_of f) (λ n. n) equations (ring_cofactors f lines)

abbrev pub sum_of_norms : AlgPred → List Polynomial → List CofactorLine → ℕ
sum_of_norms f equations lines = weight_of (λ n. n) equations (ring_cofactors f lines)

-- The claim is an equation that is neither wide nor large. Each cofactor has its equation among those of the fact, and their
-- degrees add to at most 1,024. Over whole numbers the sum of the products of the norms is below 2 ^ 127. The sum of the
-- products is the polynomial of the claim.
pub record CofactorCheck (p : VersionedProgram) (lemmas : List Numbered) (fact : Fact) (lines : List CofactorLine) : Type 0 where
  pub equation : AlgPred
  pub claim : claim_equation p fact.claim ≡ Some equation
  pub ring : is_ring (modulus_of equation.modulus) ≡ true
  pub begins : claim_begins equation ≡ Ready
  pub fitting : are_fitting (ring_of equation) (fact_equations p lemmas fact equation) lines ≡ true
  pub narrow : is_wide (modulus_of equation.modulus) (sum_of_norms equation (fact_equations p lemmas fact equation) lines) ≡ false
  pub sum : claim_polynomial (ring_of equation) equation ≡ sum_of_products equation (fact_equations p lemmas fact equation) lines

-- the reason of the sums: width is looked for first
abbrev pub sum_reason : AlgPred → List Polynomial → List CofactorLine → Option Reason
sum_reason f equations lines =
    if is_wide (modulus_of f.modulus) (sum_of_norms f equations lines) then Some reason.Wide
    else unless (same_polynomial (claim_polynomial (ring_of f) f) (sum_of_products f equations lines)) reason.Cofactors

-- that of the lines
abbrev pub line_reason : AlgPred → List Polynomial → List CofactorLine → Option Reason
line_reason f equations lines =
    if are_fitting (ring_of f) equations lines then sum_reason f equations lines else Some reason.Cofactors

-- that of the claim
abbrev pub begin_reason : Begins → Option Reason → Option Reason
begin_reason Ready further = further
begin_reason TooWide further = Some reason.Cofactors
begin_reason (TooLarge what n) further = Some reason.Cofactors

abbrev pub ring_reason : Bool → Option Reason → Option Reason
ring_reason b further = if b then further else Some reason.Cofactors

abbrev pub equation_reason : VersionedProgram → List Numbered → Fact → List CofactorLine → Option AlgPred → Option Reason
equation_reason p lemmas fact lines None = Some reason.Cofactors
equation_reason p lemmas fact lines (Some f) =
    ring_reason (is_ring (modulus_of f.modulus)) (begin_reason (claim_begins f) (line_reason f (fact_equations p lemmas fact f) lines))

-- the reason against the certificate
unfoldable pub cofactor_reason : VersionedProgram → List Numbered → Fact → List CofactorLine → Option Reason
cofactor_reason p lemmas fact lines = equation_reason p lemmas fact lines (claim_equation p fact.claim)
