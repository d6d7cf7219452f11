-- Polynomials as lists of terms in decreasing order of their monomials, without a coefficient 0. Each definition takes
-- the reduction r of its ring: what each integer is in that ring.
use Rattle.std.specs.Prelude.{◌≡◌, ℕ, ◌+◌, List, [], ◌∷◌, map, ℤ, pos, negsuc, zero, suc, ◌+ℤ◌, ◌*ℤ◌, unsigned_abs, Option, Bool, false, ◌||◌}
use Rattle.std.specs.Int.{int_pow}
use Rattle.std.specs.declared.cmp.Ordering.{Ordering}
use Rattle.std.specs.declared.cmp.Ordering.TheVariants.{Less, Equal, Greater}
use Rattle.tcl_ring.specs.Reduction.{reduced_by, is_wide}
use Rattle.tcl_poly.specs.Monomial.{Monomial, IsMonomial, IsLess, times, order, degree}

-- a term: a monomial and its coefficient
abbrev pub Term : Type 0
Term = Monomial × ℤ

abbrev pub Polynomial : Type 0
Polynomial = List Term

-- the terms with their coefficients' values
abbrev pub terms_of : {E : Type 0} → (E → ℤ) → List (Monomial × E) → Polynomial
terms_of value p = map (λ t. (t.0, value t.1)) p

-- every monomial of p is less than m
abbrev pub IsUnder : Monomial → Polynomial → Type 0
IsUnder m [] = Unit {0}
IsUnder m (t ∷ p) = IsLess t.0 m × IsUnder m p

-- terms in decreasing order whose coefficients are elements of the ring other than 0
abbrev pub IsPolynomial : (ℤ → ℤ) → Polynomial → Type 0
IsPolynomial r [] = Unit {0}
IsPolynomial r (t ∷ p) = IsMonomial t.0 × (t.1 ≡ pos 0 → ⊥) × (r t.1 ≡ t.1) × IsUnder t.0 p × IsPolynomial r p

-- the term in front, left out where its coefficient is 0
abbrev pub front : Monomial → ℤ → Polynomial → Polynomial
front m (pos zero) p = p
front m (pos (suc n)) p = (m, pos (suc n)) ∷ p
front m (negsuc n) p = (m, negsuc n) ∷ p

-- the constant n
abbrev pub number_of : (ℤ → ℤ) → ℤ → Polynomial
number_of r n = front [] (r n) []

-- a term added at its place
abbrev pub add_at : (ℤ → ℤ) → Ordering → Term → Term → Polynomial → Polynomial → Polynomial
add_at r Less t u p further = u ∷ further
add_at r Equal t u p further = front u.0 (r (t.1 +ℤ u.1)) p
add_at r Greater t u p further = t ∷ (u ∷ p)

abbrev pub add_term : (ℤ → ℤ) → Term → Polynomial → Polynomial
add_term r t [] = t ∷ []
add_term r t (u ∷ p) = add_at r (order t.0 u.0) t u p (add_term r t p)

-- the sum
abbrev pub sum_of : (ℤ → ℤ) → Polynomial → Polynomial → Polynomial
sum_of r [] q = q
sum_of r (t ∷ p) q = add_term r t (sum_of r p q)

-- the product with one term
abbrev pub scaled : (ℤ → ℤ) → Term → Polynomial → Polynomial
scaled r t [] = []
scaled r t (u ∷ p) = front (times t.0 u.0) (r (t.1 *ℤ u.1)) (scaled r t p)

-- the product
abbrev pub product_of : (ℤ → ℤ) → Polynomial → Polynomial → Polynomial
product_of r [] q = []
product_of r (t ∷ p) q = sum_of r (scaled r t q) (product_of r p q)

-- p to the power k; every power 0 is 1
abbrev pub raised_by : (ℤ → ℤ) → Polynomial → ℕ → Polynomial
raised_by r p zero = number_of r (pos 1)
raised_by r p (suc k) = product_of r (raised_by r p k) p

-- the sum of the magnitudes of the coefficients
abbrev pub norm_of : Polynomial → ℕ
norm_of [] = 0
norm_of (t ∷ p) = unsigned_abs t.1 + norm_of p

-- whether the magnitude of some coefficient is too great for the ring of that modulus
abbrev pub has_wide : Option ℕ → Polynomial → Bool
has_wide m [] = false
has_wide m (t ∷ p) = is_wide m (unsigned_abs t.1) || has_wide m p

-- the degree, which is that of the first term; 0 for the zero polynomial
abbrev pub degree_of : {E : Type 0} → List (Monomial × E) → ℕ
degree_of [] = 0
degree_of (t ∷ p) = degree t.0

-- the sum of the terms' coefficients, each with a weight for its monomial
abbrev pub weigh : (Monomial → ℤ) → Polynomial → ℤ
weigh weight [] = pos 0
weigh weight (t ∷ p) = t.1 *ℤ weight t.0 +ℤ weigh weight p

abbrev pub one_at : Ordering → ℤ
one_at Less = pos 0
one_at Equal = pos 1
one_at Greater = pos 0

-- the coefficient of a monomial, 0 where it does not occur
abbrev pub coefficient : Polynomial → Monomial → ℤ
coefficient p m = weigh (λ n. one_at (order n m)) p

-- the coefficient of a monomial in a product: over all pairs of terms whose monomials multiply to it
abbrev pub product_coefficient : Polynomial → Polynomial → Monomial → ℤ
product_coefficient p q m = weigh (λ n. weigh (λ l. one_at (order (times n l) m)) q) p

-- the value of a monomial, and of a polynomial, where the unknowns have these values
abbrev pub monomial_value : (ℕ → ℤ) → Monomial → ℤ
monomial_value point [] = pos 1
monomial_value point (f ∷ m) = int_pow (point f.0) f.1 *ℤ monomial_value point m

abbrev pub value_of : (ℕ → ℤ) → Polynomial → ℤ
value_of point p = weigh (monomial_value point) p

-- the polynomial is over the ring of that modulus
abbrev pub IsOver : {E : Type 0} → Option ℕ → (E → ℤ) → List (Monomial × E) → Type 0
IsOver m value p = IsPolynomial (reduced_by m) (terms_of value p)

-- a power of an unknown by its key
abbrev pub power_of : (ℤ → ℤ) → ℕ → ℕ → Polynomial
power_of r key zero = number_of r (pos 1)
power_of r key (suc k) = front ((key, suc k) ∷ []) (r (pos 1)) []
