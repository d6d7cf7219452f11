-- Lists of cofactors as the code walks them. No public clause cites this module.
use Rattle.std.specs.Prelude.{ℕ, suc, ◌<◌, ◌≤◌, ◌||◌, Bool, false, List, [], ◌∷◌, map, ℤ, Option}
use Rattle.std.specs.Ordering.{nat_cmp}
use Rattle.std.specs.declared.cmp.Ordering.{Ordering}
use Rattle.std.specs.declared.cmp.Ordering.TheVariants.{Less, Greater}
use Rattle.tcl_poly.specs.Polynomial.{Polynomial, IsPolynomial, terms_of, has_wide}
use Rattle.tcl_poly.specs.Combination.{Terms}

-- which list has the lesser next number: one that has ended has the greater
abbrev pub first_number : {X Y : Type 0} → List (ℕ × X) → List (ℕ × Y) → Ordering
first_number [] ys = Greater
first_number (x ∷ xs) [] = Less
first_number (x ∷ xs) (y ∷ ys) = nat_cmp x.0 y.0

-- the numbers rise from the least one on, and the cofactors are over the ring
abbrev pub AreOrdered : (ℤ → ℤ) → ℕ → List (ℕ × Polynomial) → Type 0
AreOrdered r least [] = Unit {0}
AreOrdered r least (c ∷ cs) = (least ≤ c.0) × IsPolynomial r c.1 × AreOrdered r (suc c.0) cs

-- whether a coefficient of some cofactor is too great
abbrev pub any_wide : Option ℕ → List (ℕ × Polynomial) → Bool
any_wide m [] = false
any_wide m (c ∷ cs) = has_wide m c.1 || any_wide m cs

-- each cofactor has an equation, of which there are n
abbrev pub AreBelow : {X : Type 0} → ℕ → List (ℕ × X) → Type 0
AreBelow n [] = Unit {0}
AreBelow n (c ∷ cs) = (c.0 < n) × AreBelow n cs

-- the equations with their coefficients' values
abbrev pub equations_of : {E : Type 0} → (E → ℤ) → List (Terms E) → List Polynomial
equations_of value equations = map (terms_of value) equations
