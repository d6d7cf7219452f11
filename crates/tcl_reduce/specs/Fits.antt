-- What a substitution needs of its rows, so that no product or sum on the way is too great. No public clause cites this module.
use Rattle.std.specs.Prelude.{◌≡◌, ℕ, ◌+◌, ◌*◌, ◌≤◌, false, List, ℤ, Option}
use Rattle.tcl_ring.specs.Reduction.{reduced_by, is_wide}
use Rattle.tcl_poly.specs.Monomial.{Monomial}
use Rattle.tcl_poly.specs.Polynomial.{Polynomial, IsPolynomial, terms_of, product_of, power_of, norm_of, degree_of, raised_by}
use Rattle.tcl_reduce.specs.Substitution.{quotient_by, substituted, cofactor_by}

-- the coefficients' values
abbrev pub values_by : {E : Type 0} → (E → ℤ) → (ℕ → List (Monomial × E)) → ℕ → Polynomial
values_by value fs k = terms_of value (fs k)

-- the row of the j-th power, and that of the cofactor
pub record RowFits (m : Option ℕ) (u : ℕ) (d : Polynomial) (fs : ℕ → Polynomial) (j : ℕ) : Type 0 where
  pub over : IsPolynomial (reduced_by m) (fs j)
  pub degrees : degree_of (fs j) + degree_of (raised_by (reduced_by m) d j) ≤ 1024
  pub product : is_wide m (norm_of (fs j) * norm_of (raised_by (reduced_by m) d j)) ≡ false
  pub sum : is_wide m (norm_of (substituted (reduced_by m) d fs j) + norm_of (product_of (reduced_by m) (fs j) (raised_by (reduced_by m) d j))) ≡ false
  pub cofactor_degrees : degree_of (fs j) + degree_of (quotient_by (reduced_by m) u d j) ≤ 1024
  pub cofactor_product : is_wide m (norm_of (fs j) * norm_of (quotient_by (reduced_by m) u d j)) ≡ false
  pub cofactor_sum : is_wide m (norm_of (cofactor_by (reduced_by m) u d fs j) + norm_of (product_of (reduced_by m) (fs j) (quotient_by (reduced_by m) u d j))) ≡ false

-- the power k of the definition, and the quotient of the power k
pub record ArePowers (m : Option ℕ) (u : ℕ) (d : Polynomial) (k : ℕ) (p q : Polynomial) : Type 0 where
  pub power : p ≡ raised_by (reduced_by m) d k
  pub quotient : q ≡ quotient_by (reduced_by m) u d k
  pub power_over : IsPolynomial (reduced_by m) p
  pub quotient_over : IsPolynomial (reduced_by m) q

-- the next power of the definition, and the next quotient
pub record StepFits (m : Option ℕ) (u : ℕ) (d : Polynomial) (j : ℕ) : Type 0 where
  pub power_degrees : degree_of (raised_by (reduced_by m) d j) + degree_of d ≤ 1024
  pub power_product : is_wide m (norm_of (raised_by (reduced_by m) d j) * norm_of d) ≡ false
  pub quotient_degrees : degree_of (quotient_by (reduced_by m) u d j) + degree_of d ≤ 1024
  pub quotient_product : is_wide m (norm_of (quotient_by (reduced_by m) u d j) * norm_of d) ≡ false
  pub quotient_sum : is_wide m (norm_of (product_of (reduced_by m) (quotient_by (reduced_by m) u d j) d) + norm_of (power_of (reduced_by m) u j)) ≡ false
