-- What the remainder and the cofactors of a reduction say of the polynomial, over a list of equations.
use Rattle.std.specs.Prelude.{◌≡◌, ℕ, suc, ◌<◌, ◌≤◌, false, List, [], ◌∷◌, length, map, ℤ, Option}
use Rattle.tcl_ring.specs.Reduction.{reduced_by, is_wide}
use Rattle.tcl_poly.specs.Polynomial.{Polynomial, IsPolynomial, terms_of, sum_of}
use Rattle.tcl_poly.specs.Combination.{Terms, equation_at, combination_of, weight_of, AreCofactors}
use Rattle.tcl_reduce.specs.Reduction.{Definition, definition_at, equation_of}

-- the cofactors with their coefficients' values
abbrev pub pairs_of : {E : Type 0} → (E → ℤ) → List (ℕ × Terms E) → List (ℕ × Polynomial)
pairs_of value cs = map (λ c. (c.0, terms_of value c.1)) cs

-- every definition's polynomial is over the ring
abbrev pub AreDefinitions : (ℤ → ℤ) → List Definition → Type 0
AreDefinitions r [] = Unit {0}
AreDefinitions r (x ∷ xs) = IsPolynomial r x.2 × AreDefinitions r xs

-- the list begins with the equations of the definitions, in their order
abbrev pub BeginsWith : {E : Type 0} → Option ℕ → (E → ℤ) → List Definition → List (Terms E) → Type 0
BeginsWith m value defs equations =
    (k : ℕ) → k < length defs →
    (k < length equations) × (terms_of value (equation_at equations k) ≡ equation_of (reduced_by m) (definition_at defs k))

-- the numbers of the cofactors rise from the least one on, and are below the end
abbrev pub RiseFrom : {X : Type 0} → ℕ → ℕ → List (ℕ × X) → Type 0
RiseFrom least end [] = Unit {0}
RiseFrom least end (c ∷ cs) = (least ≤ c.0) × (c.0 < end) × RiseFrom (suc c.0) end cs

-- f is the remainder plus the sum of the cofactors times the equations, and the exact comparison can show it: its
-- conditions hold, and the sum of the products of the norms is not too great
pub record IsRemainder {E : Type 0} (m : Option ℕ) (value : E → ℤ) (equations : List (Terms E)) (f rest : Polynomial) (cofactors : List (ℕ × Terms E)) : Type 0 where
  pub kept : f ≡ sum_of (reduced_by m) rest (combination_of (reduced_by m) value equations cofactors)
  pub fit : AreCofactors m value equations cofactors
  pub rise : RiseFrom 0 (length equations) cofactors
  pub narrow : is_wide m (weight_of value equations cofactors) ≡ false
