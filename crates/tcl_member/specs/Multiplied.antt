-- Factors of one term, and the cofactors that they multiply.
use Rattle.std.specs.Prelude.{◌≡◌, ℕ, ◌+◌, ◌*◌, ◌≤◌, false, List, [], ◌∷◌, ℤ, pos, Option}
use Rattle.tcl_ring.specs.Reduction.{is_wide}
use Rattle.tcl_poly.specs.Monomial.{Monomial}
use Rattle.tcl_poly.specs.Polynomial.{terms_of, norm_of, degree_of, IsOver}
use Rattle.tcl_poly.specs.Combination.{Terms}

-- one term: the monomial with the coefficient 1
abbrev pub IsFactor : {E : Type 0} → (ℤ → ℤ) → (E → ℤ) → Monomial → Terms E → Type 0
IsFactor r value n t = terms_of value t ≡ (n, r (pos 1)) ∷ []

-- each product fits
abbrev pub AreMultiplied : {E : Type 0} → Option ℕ → (E → ℤ) → Terms E → List (ℕ × Terms E) → Type 0
AreMultiplied m value t [] = Unit {0}
AreMultiplied m value t (c ∷ cs) =
    IsOver m value c.1
    × (degree_of t + degree_of c.1 ≤ 1024)
    × (is_wide m (norm_of (terms_of value t) * norm_of (terms_of value c.1)) ≡ false)
    × AreMultiplied m value t cs
