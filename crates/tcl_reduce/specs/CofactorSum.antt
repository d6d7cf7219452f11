-- Sums and multiples of lists of cofactors, by rising numbers of their equations. A cofactor that becomes 0 is left out: modulo
-- a composite number a product can be 0 where no factor is.
use Rattle.std.specs.Prelude.{ℕ, ◌+◌, ◌||◌, Bool, false, nat_le, List, [], ◌∷◌, ℤ, Option}
use Rattle.std.specs.Ordering.{nat_cmp}
use Rattle.std.specs.declared.cmp.Ordering.{Ordering}
use Rattle.std.specs.declared.cmp.Ordering.TheVariants.{Less, Equal, Greater}
use Rattle.tcl_ring.specs.Reduction.{is_wide}
use Rattle.tcl_poly.specs.Polynomial.{Term, Polynomial, sum_of, scaled, degree_of}
use Rattle.tcl_poly.specs.Combination.{equation_at, weight_of}

-- the cofactor in front, left out where it is 0
abbrev pub front_cofactor : ℕ → Polynomial → List (ℕ × Polynomial) → List (ℕ × Polynomial)
front_cofactor k [] cs = cs
front_cofactor k (t ∷ p) cs = (k, t ∷ p) ∷ cs

abbrev pub put_cofactor_at : (ℤ → ℤ) → Ordering → ℕ × Polynomial → ℕ × Polynomial → List (ℕ × Polynomial) → List (ℕ × Polynomial) → List (ℕ × Polynomial)
put_cofactor_at r Less c d cs further = front_cofactor c.0 c.1 (d ∷ cs)
put_cofactor_at r Equal c d cs further = front_cofactor d.0 (sum_of r c.1 d.1) cs
put_cofactor_at r Greater c d cs further = d ∷ further

-- a cofactor added to that of the same number
abbrev pub put_cofactor : (ℤ → ℤ) → ℕ × Polynomial → List (ℕ × Polynomial) → List (ℕ × Polynomial)
put_cofactor r c [] = front_cofactor c.0 c.1 []
put_cofactor r c (d ∷ cs) = put_cofactor_at r (nat_cmp c.0 d.0) c d cs (put_cofactor r c cs)

-- the sum of two lists
abbrev pub sum_cofactors : (ℤ → ℤ) → List (ℕ × Polynomial) → List (ℕ × Polynomial) → List (ℕ × Polynomial)
sum_cofactors r [] ds = ds
sum_cofactors r (c ∷ cs) ds = put_cofactor r c (sum_cofactors r cs ds)

-- each cofactor times a term
abbrev pub scaled_cofactors : (ℤ → ℤ) → Term → List (ℕ × Polynomial) → List (ℕ × Polynomial)
scaled_cofactors r t [] = []
scaled_cofactors r t (c ∷ cs) = front_cofactor c.0 (scaled r t c.1) (scaled_cofactors r t cs)

-- a cofactor and its equation have degrees that add to more than 1,024
abbrev pub is_deep : List Polynomial → List (ℕ × Polynomial) → Bool
is_deep equations [] = false
is_deep equations (c ∷ cs) = nat_le 1025 (degree_of c.1 + degree_of (equation_at equations c.0)) || is_deep equations cs

-- what is wide of cofactors that stand after a step: the degrees, or over the integers the sum of the products of the norms
-- with that norm added
abbrev pub are_wide : Option ℕ → List Polynomial → ℕ → List (ℕ × Polynomial) → Bool
are_wide m equations norm cs = is_deep equations cs || is_wide m (norm + weight_of (λ n. n) equations cs)
