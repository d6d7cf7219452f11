-- Products of cofactors with a monomial, by degrees alone.
use Rattle.std.specs.Prelude.{ℕ, ◌+◌, ◌||◌, Bool, false, nat_le, List, [], ◌∷◌}
use Rattle.tcl_poly.specs.Monomial.{degree}
use Rattle.tcl_poly.specs.Polynomial.{Polynomial, degree_of}
use Rattle.tcl_poly.specs.Combination.{equation_at}

-- the product of the cofactor with a monomial of degree d, and its equation, have degrees that add to more than 1,024
abbrev pub is_deep_product : ℕ → Polynomial → Polynomial → Bool
is_deep_product d [] e = false
is_deep_product d (t ∷ p) e = nat_le 1025 (d + degree t.0 + degree_of e)

-- some product is so deep
abbrev pub are_deep_products : List Polynomial → ℕ → List (ℕ × Polynomial) → Bool
are_deep_products es d [] = false
are_deep_products es d (c ∷ cs) = is_deep_product d c.1 (equation_at es c.0) || are_deep_products es d cs
