-- Laws of the definitions of plain reduction.
use Rattle.std.specs.Prelude.{◌≡◌, ℕ, zero, suc, ◌<◌, ◌≤◌, List, [], ℤ, Option}
use Rattle.tcl_ring.specs.Reduction.{reduced_by, IsModulus}
use Rattle.tcl_poly.specs.Polynomial.{Polynomial, IsPolynomial, degree_of, sum_of, product_of, power_of, raised_by}
use Rattle.tcl_reduce.specs.Parts.{part, top}
use Rattle.tcl_reduce.specs.Substitution.{quotient_by}
use Rattle.tcl_reduce.specs.Reduction.{Definition, Reduced, equation_of, reduced_of}
use Rattle.tcl_reduce.specs.Remainder.{AreDefinitions, BeginsWith, IsRemainder}

-- a reduction that is neither wide nor large keeps the polynomial: it is the remainder plus the sum of the cofactors
-- times the equations. In every ring the degrees of each cofactor and its equation add to at most 1,024, and over the
-- integers the sum of the products of the norms is below 2^127
abbrev pub ReductionsKeep : Type 0
ReductionsKeep =
    (m : Option ℕ) (defs : List Definition) (f rest : Polynomial) (cofactors : List (ℕ × Polynomial)) (spent : ℕ) (equations : List Polynomial) →
    IsModulus m → AreDefinitions (reduced_by m) defs → IsPolynomial (reduced_by m) f → degree_of f ≤ 1024 →
    BeginsWith m (λ n. n) defs equations →
    reduced_of m defs f ≡ Reduced.Done rest cofactors spent →
    IsRemainder m (λ n. n) equations f rest cofactors

-- the sum of the coefficients of the powers of u below n, times these powers
abbrev pub gathered : (ℤ → ℤ) → ℕ → Polynomial → ℕ → Polynomial
gathered r u f zero = []
gathered r u f (suc k) = sum_of r (gathered r u f k) (product_of r (part u k f) (power_of r u k))

-- the coefficients of all powers make the polynomial
abbrev pub PartsMake : Type 0
PartsMake =
    (m : Option ℕ) (u n : ℕ) (f : Polynomial) → IsModulus m → IsPolynomial (reduced_by m) f → top u f < n →
    f ≡ gathered (reduced_by m) u f n

-- the quotient times the equation u - d, plus d^k, is u^k
abbrev pub QuotientsDivide : Type 0
QuotientsDivide =
    (m : Option ℕ) (x : Definition) (k : ℕ) → IsModulus m → IsPolynomial (reduced_by m) x.2 →
    power_of (reduced_by m) x.1 k
    ≡ sum_of (reduced_by m) (raised_by (reduced_by m) x.2 k) (product_of (reduced_by m) (quotient_by (reduced_by m) x.1 x.2 k) (equation_of (reduced_by m) x))
