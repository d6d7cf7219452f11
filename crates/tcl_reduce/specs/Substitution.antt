-- The substitution of u = d in f, the sum of f_k * u^k, with its cofactor, and what it costs. The f_k are given by their
-- powers; r is the reduction of the ring.
use Rattle.std.specs.Prelude.{ℕ, zero, suc, max, ◌+◌, ◌*◌, ◌^◌, List, [], ◌∷◌, length, ℤ}
use Rattle.tcl_poly.specs.Monomial.{Monomial}
use Rattle.tcl_poly.specs.Polynomial.{Polynomial, sum_of, product_of, power_of, norm_of, degree_of, raised_by}

-- the sum of u^i * d^(k-1-i) over i below k, by Horner's rule: its product with u - d is u^k - d^k
abbrev pub quotient_by : (ℤ → ℤ) → ℕ → Polynomial → ℕ → Polynomial
quotient_by r u d zero = []
quotient_by r u d (suc k) = sum_of r (product_of r (quotient_by r u d k) d) (power_of r u k)

-- the sum of f_k * d^k over k below n
abbrev pub substituted : (ℤ → ℤ) → Polynomial → (ℕ → Polynomial) → ℕ → Polynomial
substituted r d fs zero = []
substituted r d fs (suc k) = sum_of r (substituted r d fs k) (product_of r (fs k) (raised_by r d k))

-- the sum over k below n of f_k times the sum of u^i * d^(k-1-i) over i below k
abbrev pub cofactor_by : (ℤ → ℤ) → ℕ → Polynomial → (ℕ → Polynomial) → ℕ → Polynomial
cofactor_by r u d fs zero = []
cofactor_by r u d fs (suc k) = sum_of r (cofactor_by r u d fs k) (product_of r (fs k) (quotient_by r u d k))

-- the bound of the norms that the substitution adds: over k from 1 to n
abbrev pub bound_of : Polynomial → (ℕ → Polynomial) → ℕ → ℕ
bound_of d fs zero = 0
bound_of d fs (suc k) = bound_of d fs k + suc k * norm_of (fs (suc k)) * max 1 (norm_of d) ^ k * (1 + norm_of d)

-- the number where there is a term
abbrev pub if_any : {E : Type 0} → List E → ℕ → ℕ
if_any [] n = 0
if_any (t ∷ p) n = n

-- the greatest degree of f_k plus k times that of d, over the k below n that occur
abbrev pub degree_by : {E : Type 0} → List (Monomial × E) → (ℕ → List (Monomial × E)) → ℕ → ℕ
degree_by d fs zero = 0
degree_by d fs (suc k) = max (degree_by d fs k) (if_any (fs k) (degree_of (fs k) + k * degree_of d))

-- the number of terms, before any are merged: over k below n
abbrev pub terms_by : {E : Type 0} → List (Monomial × E) → (ℕ → List (Monomial × E)) → ℕ → ℕ
terms_by d fs zero = 0
terms_by d fs (suc k) = terms_by d fs k + length (fs k) * length d ^ k
