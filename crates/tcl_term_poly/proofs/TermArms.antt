-- The bounds and the polynomial of each form of a term, and what they ask of its parts.
use Rattle.std.proofs.Common.{◌≡◌, ℕ, zero, suc, ◌+◌, ◌*◌, ◌^◌, ◌≤◌, ◌<◌, max, sym, ◌∙◌, ap, refl, arith, ℤ, pos, negsuc, false, List, [], Option, Some, None}
use Rattle.std.proofs.lemmas.Nat.{mul-le}
use Rattle.std.proofs.Math.Nat.{pow-suc, pow-zero}
use Rattle.tcl_ring.specs.Reduction.{reduced_by, is_wide, IsModulus}
use Rattle.tcl_ring.proofs.Reductions.{is_reduction}
use Rattle.tcl_poly.specs.Monomial.{Monomial}
use Rattle.tcl_poly.specs.Polynomial.{Polynomial, sum_of, scaled, product_of, number_of, raised_by, norm_of, degree_of, terms_of}
use Rattle.tcl_poly.proofs.TermLists.{degree_of_values}
use Rattle.tcl_poly.proofs.Norms.{narrower}
use Rattle.tcl_lang.specs.declared.term.Term.{Term}
use Rattle.tcl_lang.specs.declared.term.Term.TheViews as term
use Rattle.tcl_lang.specs.declared.term.Term.TheOpen as layer
use Rattle.tcl_lang.specs.declared.term.Term.TheVariants as rolled
use Rattle.tcl_lang.specs.declared.term.Term.TheFolds.{fold-roll-Term}
use Rattle.tcl_lang.specs.Bound as bound
use Rattle.tcl_term_poly.specs.TermPolynomial.{difference_of, polynomial_step, polynomial_of}
use Rattle.tcl_term_poly.proofs.TermBounds.{term_norm, term_degree, term_nothing}

-- norms
pub norm_neg : (t a : Term) → t ≡ term.Neg a → bound.norm_of t ≡ bound.norm_of a
norm_neg t a is = ap bound.norm_of (is ∙ sym (rolled.rolls-Neg a)) ∙ fold-roll-Term ℕ bound.norm_step (layer.Neg a)

pub norm_add : (t a b : Term) → t ≡ term.Add a b → bound.norm_of t ≡ bound.norm_of a + bound.norm_of b
norm_add t a b is = ap bound.norm_of (is ∙ sym (rolled.rolls-Add a b)) ∙ fold-roll-Term ℕ bound.norm_step (layer.Add a b)

pub norm_sub : (t a b : Term) → t ≡ term.Sub a b → bound.norm_of t ≡ bound.norm_of a + bound.norm_of b
norm_sub t a b is = ap bound.norm_of (is ∙ sym (rolled.rolls-Sub a b)) ∙ fold-roll-Term ℕ bound.norm_step (layer.Sub a b)

pub norm_mul : (t a b : Term) → t ≡ term.Mul a b → bound.norm_of t ≡ bound.norm_of a * bound.norm_of b
norm_mul t a b is = ap bound.norm_of (is ∙ sym (rolled.rolls-Mul a b)) ∙ fold-roll-Term ℕ bound.norm_step (layer.Mul a b)

pub norm_pow : (t a : Term) (k : ℕ) → t ≡ term.Pow a k → bound.norm_of t ≡ bound.norm_of a ^ k
norm_pow t a k is = ap bound.norm_of (is ∙ sym (rolled.rolls-Pow a k)) ∙ fold-roll-Term ℕ bound.norm_step (layer.Pow a k)

-- degrees
pub degree_neg : (t a : Term) → t ≡ term.Neg a → bound.degree_of t ≡ bound.degree_of a
degree_neg t a is = ap bound.degree_of (is ∙ sym (rolled.rolls-Neg a)) ∙ fold-roll-Term ℕ bound.degree_step (layer.Neg a)

pub degree_add : (t a b : Term) → t ≡ term.Add a b → bound.degree_of t ≡ max (bound.degree_of a) (bound.degree_of b)
degree_add t a b is = ap bound.degree_of (is ∙ sym (rolled.rolls-Add a b)) ∙ fold-roll-Term ℕ bound.degree_step (layer.Add a b)

pub degree_sub : (t a b : Term) → t ≡ term.Sub a b → bound.degree_of t ≡ max (bound.degree_of a) (bound.degree_of b)
degree_sub t a b is = ap bound.degree_of (is ∙ sym (rolled.rolls-Sub a b)) ∙ fold-roll-Term ℕ bound.degree_step (layer.Sub a b)

pub degree_mul : (t a b : Term) → t ≡ term.Mul a b → bound.degree_of t ≡ bound.degree_of a + bound.degree_of b
degree_mul t a b is = ap bound.degree_of (is ∙ sym (rolled.rolls-Mul a b)) ∙ fold-roll-Term ℕ bound.degree_step (layer.Mul a b)

pub degree_pow : (t a : Term) (k : ℕ) → t ≡ term.Pow a k → bound.degree_of t ≡ bound.degree_of a * k
degree_pow t a k is = ap bound.degree_of (is ∙ sym (rolled.rolls-Pow a k)) ∙ fold-roll-Term ℕ bound.degree_step (layer.Pow a k)

-- polynomials
pub made_neg : (r : ℤ → ℤ) (t a : Term) → t ≡ term.Neg a → polynomial_of r t ≡ scaled r ([], negsuc 0) (polynomial_of r a)
made_neg r t a is = ap (polynomial_of r) (is ∙ sym (rolled.rolls-Neg a)) ∙ fold-roll-Term Polynomial (polynomial_step r) (layer.Neg a)

pub made_add : (r : ℤ → ℤ) (t a b : Term) → t ≡ term.Add a b → polynomial_of r t ≡ sum_of r (polynomial_of r a) (polynomial_of r b)
made_add r t a b is = ap (polynomial_of r) (is ∙ sym (rolled.rolls-Add a b)) ∙ fold-roll-Term Polynomial (polynomial_step r) (layer.Add a b)

pub made_sub : (r : ℤ → ℤ) (t a b : Term) → t ≡ term.Sub a b → polynomial_of r t ≡ difference_of r (polynomial_of r a) (polynomial_of r b)
made_sub r t a b is = ap (polynomial_of r) (is ∙ sym (rolled.rolls-Sub a b)) ∙ fold-roll-Term Polynomial (polynomial_step r) (layer.Sub a b)

pub made_mul : (r : ℤ → ℤ) (t a b : Term) → t ≡ term.Mul a b → polynomial_of r t ≡ product_of r (polynomial_of r a) (polynomial_of r b)
made_mul r t a b is = ap (polynomial_of r) (is ∙ sym (rolled.rolls-Mul a b)) ∙ fold-roll-Term Polynomial (polynomial_step r) (layer.Mul a b)

pub made_pow : (r : ℤ → ℤ) (t a : Term) (k : ℕ) → t ≡ term.Pow a k → polynomial_of r t ≡ raised_by r (polynomial_of r a) k
made_pow r t a k is = ap (polynomial_of r) (is ∙ sym (rolled.rolls-Pow a k)) ∙ fold-roll-Term Polynomial (polynomial_step r) (layer.Pow a k)

-- a part whose bound is at most that of its term fits where the term does
pub part_narrow : (m : Option ℕ) (t a : Term) → is_wide m (bound.norm_of t) ≡ false → bound.norm_of a ≤ bound.norm_of t → is_wide m (bound.norm_of a) ≡ false
part_narrow m t a fits h = narrower m (bound.norm_of t) (bound.norm_of a) fits h

-- factors: each is at most the product where none is 0
pub first_factor : (n k : ℕ) → 0 < k → n ≤ n * k
first_factor n k h = omega (arith, mul-le n 1 n k (omega arith) (omega (arith, h)))

pub second_factor : (n k : ℕ) → 0 < n → k ≤ n * k
second_factor n k h = omega (arith, mul-le 1 k n k (omega (arith, h)) (omega arith))

-- a base is at most its power, from the power 1 on
positive_power : (n k : ℕ) → 1 ≤ n → 1 ≤ n ^ k
positive_power n zero h = omega (arith, pow-zero n)
positive_power n (suc k) h = omega (arith, pow-suc n k, mul-le 1 1 n (n ^ k) h (positive_power n k h))

pub base_below : (n k : ℕ) → 0 < k → n ≤ n ^ k
base_below n zero h = absurd (omega (arith, h))
base_below zero (suc k) h = omega arith
base_below (suc n) (suc k) h = omega (arith, pow-suc (suc n) k, mul-le (suc n) 1 (suc n) (suc n ^ k) (omega arith) (positive_power (suc n) k (omega arith)))

-- what was made of parts fits where their bounds do
pub made_fits : (m : Option ℕ) (n : ℕ) (a : Term) (p : Polynomial) → p ≡ polynomial_of (reduced_by m) a → bound.norm_of a ≤ n → is_wide m n ≡ false → is_wide m (norm_of p) ≡ false
made_fits None n a p e h fits = narrower None n (norm_of p) fits (omega (arith, ap norm_of e, term_norm a, h))
made_fits (Some m) n a p e h fits = refl

pub sum_fits : (m : Option ℕ) (n : ℕ) (a b : Term) (p q : Polynomial) → p ≡ polynomial_of (reduced_by m) a → q ≡ polynomial_of (reduced_by m) b → bound.norm_of a + bound.norm_of b ≤ n → is_wide m n ≡ false → is_wide m (norm_of p + norm_of q) ≡ false
sum_fits None n a b p q e f h fits = narrower None n (norm_of p + norm_of q) fits (omega (arith, ap norm_of e, ap norm_of f, term_norm a, term_norm b, h))
sum_fits (Some m) n a b p q e f h fits = refl

pub product_fits : (m : Option ℕ) (n : ℕ) (a b : Term) (p q : Polynomial) → p ≡ polynomial_of (reduced_by m) a → q ≡ polynomial_of (reduced_by m) b → bound.norm_of a * bound.norm_of b ≤ n → is_wide m n ≡ false → is_wide m (norm_of p * norm_of q) ≡ false
product_fits None n a b p q e f h fits =
    narrower None n (norm_of p * norm_of q) fits
    (omega (arith, mul-le (norm_of p) (norm_of q) (bound.norm_of a) (bound.norm_of b) (omega (arith, ap norm_of e, term_norm a)) (omega (arith, ap norm_of f, term_norm b)), h))
product_fits (Some m) n a b p q e f h fits = refl

power_grows : (n j k : ℕ) → n ≤ j → n ^ k ≤ j ^ k
power_grows n j zero h = omega (arith, pow-zero n, pow-zero j)
power_grows n j (suc k) h = omega (arith, pow-suc n k, pow-suc j k, mul-le n (n ^ k) j (j ^ k) h (power_grows n j k h))

pub power_fits : (m : Option ℕ) (n k : ℕ) (a : Term) (p : Polynomial) → p ≡ polynomial_of (reduced_by m) a → bound.norm_of a ^ k ≤ n → is_wide m n ≡ false → is_wide m (norm_of p ^ k) ≡ false
power_fits None n k a p e h fits =
    narrower None n (norm_of p ^ k) fits (omega (arith, power_grows (norm_of p) (bound.norm_of a) k (omega (arith, ap norm_of e, term_norm a)), h))
power_fits (Some m) n k a p e h fits = refl

-- where a product's bound is not 0, neither factor's is
pub no_factor : (t a b : Term) → t ≡ term.Mul a b → 0 < bound.norm_of t → (0 < bound.norm_of a) × (0 < bound.norm_of b)
no_factor t a b is h = at (bound.norm_of a) (bound.norm_of b) (omega (arith, norm_mul t a b is, h))
  where
    at : (n k : ℕ) → 0 < n * k → (0 < n) × (0 < k)
    at zero k h = absurd (omega (arith, h))
    at (suc n) zero h = absurd (omega (arith, h))
    at (suc n) (suc k) h = (omega arith, omega arith)

-- the degree of what was made of a part
pub made_degree : {E : Type 0} (m : Option ℕ) → IsModulus m → (value : E → ℤ) (a : Term) (x : List (Monomial × E)) → terms_of value x ≡ polynomial_of (reduced_by m) a → degree_of x ≤ bound.degree_of a
made_degree m ok value a x e = omega (arith, degree_of_values value x, ap degree_of e, term_degree (reduced_by m) (is_reduction m ok) a)

pub product_degrees : (j k n d e : ℕ) → j ≤ d → k ≤ e → d + e ≤ n → j + k ≤ n
product_degrees j k n d e h i l = omega (arith, h, i, l)

pub power_degrees : (j k n d : ℕ) → j ≤ d → d * k ≤ n → k * j ≤ n
power_degrees j k n d h l = omega (arith, mul-le j k d k h (omega arith), l)

-- a term of which nothing is left
pub made_nothing : (m : Option ℕ) → IsModulus m → (t : Term) → bound.norm_of t ≡ 0 → [] ≡ polynomial_of (reduced_by m) t
made_nothing m ok t e = sym (term_nothing (reduced_by m) (is_reduction m ok) t e)

pub made_one : (r : ℤ → ℤ) (t a : Term) (k : ℕ) → t ≡ term.Pow a k → k ≡ 0 → number_of r (pos 1) ≡ polynomial_of r t
made_one r t a k is e = sym (made_pow r t a k is ∙ ap (raised_by r (polynomial_of r a)) e)
