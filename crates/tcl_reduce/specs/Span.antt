-- Constant combinations of polynomials, by their coefficients in the ring.
use Rattle.std.specs.Prelude.{◌≡◌, List, [], ◌∷◌, ℤ, pos, ◌+ℤ◌, ◌*ℤ◌}
use Rattle.tcl_poly.specs.Monomial.{Monomial}
use Rattle.tcl_poly.specs.Polynomial.{Polynomial, coefficient}

-- the coefficient of a monomial in the sum of the constants times the polynomials; a constant that is not there counts as 0
abbrev pub total : List ℤ → List Polynomial → Monomial → ℤ
total [] ps m = pos 0
total (c ∷ cs) [] m = pos 0
total (c ∷ cs) (p ∷ ps) m = c *ℤ coefficient p m +ℤ total cs ps m

-- these coefficients are those of a constant combination of the polynomials, in the ring of that reduction
abbrev pub IsSpanned : (ℤ → ℤ) → List Polynomial → (Monomial → ℤ) → Type 0
IsSpanned r ps φ = (cs : List ℤ) × ((m : Monomial) → r (φ m) ≡ r (total cs ps m))

-- the polynomial is a constant combination of the others
abbrev pub IsCombination : (ℤ → ℤ) → List Polynomial → Polynomial → Type 0
IsCombination r ps p = IsSpanned r ps (coefficient p)
