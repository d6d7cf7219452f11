-- Cofactors that a row is made of.
use Rattle.std.specs.Prelude.{◌≡◌, ℕ, ◌<◌, false, List, [], ◌∷◌, ℤ, Option}
use Rattle.tcl_ring.specs.Reduction.{is_wide}
use Rattle.tcl_poly.specs.Polynomial.{terms_of, norm_of, IsOver}
use Rattle.tcl_poly.specs.Combination.{Terms}

-- all numbers are before n
abbrev pub AreBefore : {X : Type 0} → ℕ → List (ℕ × X) → Type 0
AreBefore n [] = Unit {0}
AreBefore n (c ∷ cs) = (c.0 < n) × AreBefore n cs

-- each cofactor is over the ring, and its norm is not too great
abbrev pub AreHeldBy : {E : Type 0} → Option ℕ → (E → ℤ) → List (ℕ × Terms E) → Type 0
AreHeldBy m value [] = Unit {0}
AreHeldBy m value (c ∷ cs) = IsOver m value c.1 × (is_wide m (norm_of (terms_of value c.1)) ≡ false) × AreHeldBy m value cs
