-- Sums of products of cofactors with equations.
use Rattle.std.specs.Prelude.{ℕ, ◌+◌, ◌*◌, ◌<◌, ◌≤◌, List, [], ◌∷◌, length, slice_index_or, ℤ, Option}
use Rattle.tcl_poly.specs.Monomial.{Monomial}
use Rattle.tcl_poly.specs.Polynomial.{Polynomial, terms_of, sum_of, product_of, norm_of, degree_of, IsOver}

-- a polynomial whose coefficients are elements of a ring
abbrev pub Terms : Type 0 → Type 0
Terms E = List (Monomial × E)

-- the equation of that number
abbrev pub equation_at : {E : Type 0} → List (Terms E) → ℕ → Terms E
equation_at equations k = slice_index_or equations k []

-- the sum of the cofactors' products with their equations
abbrev pub combination_of : {E : Type 0} → (ℤ → ℤ) → (E → ℤ) → List (Terms E) → List (ℕ × Terms E) → Polynomial
combination_of r value equations [] = []
combination_of r value equations (c ∷ cs) =
    sum_of r (product_of r (terms_of value c.1) (terms_of value (equation_at equations c.0))) (combination_of r value equations cs)

-- the sum of the products of the norms
abbrev pub weight_of : {E : Type 0} → (E → ℤ) → List (Terms E) → List (ℕ × Terms E) → ℕ
weight_of value equations [] = 0
weight_of value equations (c ∷ cs) =
    norm_of (terms_of value c.1) * norm_of (terms_of value (equation_at equations c.0)) + weight_of value equations cs

-- every polynomial is over the ring
abbrev pub AreOver : {E : Type 0} → Option ℕ → (E → ℤ) → List (Terms E) → Type 0
AreOver m value [] = Unit {0}
AreOver m value (p ∷ ps) = IsOver m value p × AreOver m value ps

-- every cofactor has an equation and is over the ring, and their degrees add to at most 1,024
abbrev pub AreCofactors : {E : Type 0} → Option ℕ → (E → ℤ) → List (Terms E) → List (ℕ × Terms E) → Type 0
AreCofactors m value equations [] = Unit {0}
AreCofactors m value equations (c ∷ cs) =
    (c.0 < length equations)
    × IsOver m value c.1
    × (degree_of c.1 + degree_of (equation_at equations c.0) ≤ 1024)
    × AreCofactors m value equations cs
