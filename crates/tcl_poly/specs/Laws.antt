-- Laws of combinations, by the values of their polynomials at a point.
use Rattle.std.specs.Prelude.{◌≡◌, ℕ, ◌<◌, List, [], ◌∷◌, length, ℤ, pos, ◌+ℤ◌, ◌*ℤ◌, Option}
use Rattle.tcl_ring.specs.Reduction.{reduced_by, IsModulus}
use Rattle.tcl_poly.specs.Polynomial.{Polynomial, terms_of, value_of}
use Rattle.tcl_poly.specs.Combination.{Terms, equation_at, combination_of}

-- the sum of the products of the cofactors' values with those of their equations
abbrev pub combined_value : {E : Type 0} → (E → ℤ) → (ℕ → ℤ) → List (Terms E) → List (ℕ × Terms E) → ℤ
combined_value value point equations [] = pos 0
combined_value value point equations (c ∷ cs) =
    value_of point (terms_of value c.1) *ℤ value_of point (terms_of value (equation_at equations c.0)) +ℤ combined_value value point equations cs

-- a polynomial that is a combination of equations has at each point the value of the sum of the products' values
abbrev pub CombinationValues : Type 0
CombinationValues =
    (m : Option ℕ) (equations : List Polynomial) (f : Polynomial) (cofactors : List (ℕ × Polynomial)) (point : ℕ → ℤ) →
    IsModulus m →
    f ≡ combination_of (reduced_by m) (λ n. n) equations cofactors →
    reduced_by m (value_of point f) ≡ reduced_by m (combined_value (λ n. n) point equations cofactors)

-- where every equation has the value 0, so has a combination of them
abbrev pub CombinationVanishes : Type 0
CombinationVanishes =
    (m : Option ℕ) (equations : List Polynomial) (f : Polynomial) (cofactors : List (ℕ × Polynomial)) (point : ℕ → ℤ) →
    IsModulus m →
    f ≡ combination_of (reduced_by m) (λ n. n) equations cofactors →
    ((k : ℕ) → reduced_by m (value_of point (equation_at equations k)) ≡ reduced_by m (pos 0)) →
    reduced_by m (value_of point f) ≡ reduced_by m (pos 0)
