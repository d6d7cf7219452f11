-- One turn of the substitution's loop, with what it has read.
use Rattle.std.proofs.Common.{◌≡◌, ℕ, suc, ◌+◌, ◌*◌, ◌≤◌, ◌∙◌, ap, arith, false, ℤ, Option}
use Rattle.tcl_ring.specs.Reduction.{is_wide}
use Rattle.tcl_poly.specs.Polynomial.{Polynomial, terms_of, sum_of, product_of, norm_of, degree_of, raised_by}
use Rattle.tcl_poly.proofs.TermLists.{degree_of_values}
use Rattle.tcl_poly.specs.Combination.{Terms}
use Rattle.tcl_reduce.specs.Substitution.{quotient_by, substituted, cofactor_by}

pub rest_row : (r : ℤ → ℤ) (d : Polynomial) (fs : ℕ → Polynomial) (part power rest next : Polynomial) (k : ℕ) → part ≡ fs k → power ≡ raised_by r d k → rest ≡ substituted r d fs k → next ≡ sum_of r rest (product_of r part power) → next ≡ substituted r d fs (suc k)
rest_row r d fs part power rest next k q e h n = n ∙ (λ i. sum_of r (h i) (product_of r (q i) (e i)))

pub cofactor_row : (r : ℤ → ℤ) (u : ℕ) (d : Polynomial) (fs : ℕ → Polynomial) (part quotient cofactor next : Polynomial) (k : ℕ) → part ≡ fs k → quotient ≡ quotient_by r u d k → cofactor ≡ cofactor_by r u d fs k → next ≡ sum_of r cofactor (product_of r part quotient) → next ≡ cofactor_by r u d fs (suc k)
cofactor_row r u d fs part quotient cofactor next k q e h n = n ∙ (λ i. sum_of r (h i) (product_of r (q i) (e i)))

-- ---- what the calls need

pub degrees_at : {E : Type 0} (value : E → ℤ) (a b : Terms E) (p q : Polynomial) → terms_of value a ≡ p → terms_of value b ≡ q → degree_of p + degree_of q ≤ 1024 → degree_of a + degree_of b ≤ 1024
degrees_at value a b p q e f h = omega (arith, h, degree_of_values value a, degree_of_values value b, ap degree_of e, ap degree_of f)

pub product_at : (m : Option ℕ) (a b p q : Polynomial) → a ≡ p → b ≡ q → is_wide m (norm_of p * norm_of q) ≡ false → is_wide m (norm_of a * norm_of b) ≡ false
product_at m a b p q e f h = (λ i. is_wide m (norm_of (e i) * norm_of (f i))) ∙ h
