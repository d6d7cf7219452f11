-- The value of a sum is the sum of the values, and so for products, in the ring and at every point.
use Rattle.std.proofs.Common.{◌≡◌, ℕ, ◌<◌, refl, sym, ◌∙◌, ap, subst, [], ◌∷◌, Ordering, Less, Equal, Greater, nat_cmp, zero, suc, ℤ, pos, negsuc, ◌+ℤ◌, ◌*ℤ◌, neg_ℤ}
use Rattle.std.specs.Int.{int_pow}
use Rattle.std.specs.Ordering.{MatchOrdering}
use Rattle.std.proofs.lemmas.Cmp.{ranked}
use Rattle.tcl_num.proofs.IntegerRing.{int_add_zero, int_mul_assoc, int_mul_comm, int_mul_swap, int_mul_one, int_one_mul, int_minus_one_mul}
use Rattle.tcl_num.proofs.IntegerPowers.{int_pow_zero, int_pow_one, int_pow_suc, int_pow_add}
use Rattle.tcl_ring.specs.Reduction.{IsReduction}
use Rattle.tcl_poly.specs.Monomial.{Monomial, put, put_at, times}
use Rattle.tcl_poly.specs.Polynomial.{Term, Polynomial, IsPolynomial, sum_of, scaled, product_of, number_of, power_of, raised_by, weigh, coefficient, one_at, monomial_value, value_of}
use Rattle.tcl_poly.specs.Monomial.{order}
use Rattle.tcl_poly.proofs.Weights.{weigh_sum, weigh_scaled, weigh_product, weigh_alike, weigh_factor, weigh_front, reduced_weight}
use Rattle.tcl_poly.proofs.Canonical.{coefficient_is, sum_is, scaled_is, product_is, number_is}

value_put_at : (point : ℕ → ℤ) (o : Ordering) (f g : ℕ × ℕ) (m further : Monomial) → MatchOrdering o (f.0 < g.0) (f.0 ≡ g.0) (g.0 < f.0) → monomial_value point further ≡ monomial_value point (f ∷ m) → monomial_value point (put_at o f g m further) ≡ monomial_value point (f ∷ (g ∷ m))
value_put_at point Less f g m further s e = refl
value_put_at point Equal f g m further s e =
    let w = monomial_value point m in
    ap (λ x. x *ℤ w) (int_pow_add (point g.0) f.1 g.1)
    ∙ int_mul_assoc (int_pow (point g.0) f.1) (int_pow (point g.0) g.1) w
    ∙ ap (λ k. int_pow (point k) f.1 *ℤ (int_pow (point g.0) g.1 *ℤ w)) (sym s)
value_put_at point Greater f g m further s e =
    ap (λ x. int_pow (point g.0) g.1 *ℤ x) e
    ∙ int_mul_swap (int_pow (point g.0) g.1) (int_pow (point f.0) f.1) (monomial_value point m)

value_put : (point : ℕ → ℤ) (f : ℕ × ℕ) (m : Monomial) → monomial_value point (put f m) ≡ monomial_value point (f ∷ m)
value_put point f [] = refl
value_put point f (g ∷ m) = value_put_at point (nat_cmp f.0 g.0) f g m (put f m) (ranked f.0 g.0 (nat_cmp f.0 g.0) refl) (value_put point f m)

pub value_times : (point : ℕ → ℤ) (m n : Monomial) → monomial_value point (times m n) ≡ monomial_value point m *ℤ monomial_value point n
value_times point [] n = sym (int_one_mul (monomial_value point n))
value_times point (f ∷ m) n =
    value_put point f (times m n)
    ∙ ap (λ x. int_pow (point f.0) f.1 *ℤ x) (value_times point m n)
    ∙ sym (int_mul_assoc (int_pow (point f.0) f.1) (monomial_value point m) (monomial_value point n))

pub value_sum : (r : ℤ → ℤ) → IsReduction r → (point : ℕ → ℤ) (p q : Polynomial) → r (value_of point (sum_of r p q)) ≡ r (value_of point p +ℤ value_of point q)
value_sum r ring point p q = weigh_sum r ring (monomial_value point) p q

-- the weight of a product of monomials
weigh_times : (point : ℕ → ℤ) (n : Monomial) (q : Polynomial) → weigh (λ m. monomial_value point (times n m)) q ≡ monomial_value point n *ℤ value_of point q
weigh_times point n q =
    weigh_alike (λ m. monomial_value point (times n m)) (λ m. monomial_value point n *ℤ monomial_value point m) q (λ m. value_times point n m)
    ∙ weigh_factor (monomial_value point n) (monomial_value point) q

-- a constant factor on the right of the weight
weigh_right : (c : ℤ) (φ : Monomial → ℤ) (p : Polynomial) → weigh (λ m. φ m *ℤ c) p ≡ weigh φ p *ℤ c
weigh_right c φ p =
    weigh_alike (λ m. φ m *ℤ c) (λ m. c *ℤ φ m) p (λ m. int_mul_comm (φ m) c)
    ∙ weigh_factor c φ p
    ∙ int_mul_comm c (weigh φ p)

pub value_scaled : (r : ℤ → ℤ) → IsReduction r → (point : ℕ → ℤ) (t : Term) (p : Polynomial) → r (value_of point (scaled r t p)) ≡ r (t.1 *ℤ (monomial_value point t.0 *ℤ value_of point p))
value_scaled r ring point t p = weigh_scaled r ring (monomial_value point) t p ∙ ap (λ x. r (t.1 *ℤ x)) (weigh_times point t.0 p)

pub value_product : (r : ℤ → ℤ) → IsReduction r → (point : ℕ → ℤ) (p q : Polynomial) → r (value_of point (product_of r p q)) ≡ r (value_of point p *ℤ value_of point q)
value_product r ring point p q =
    weigh_product r ring (monomial_value point) p q
    ∙ ap r (weigh_alike (λ n. weigh (λ m. monomial_value point (times n m)) q) (λ n. monomial_value point n *ℤ value_of point q) p (λ n. weigh_times point n q)
    ∙ weigh_right (value_of point q) (monomial_value point) p)

-- the coefficients
pub coefficient_sum : (r : ℤ → ℤ) → IsReduction r → (p q : Polynomial) → IsPolynomial r p → IsPolynomial r q → (m : Monomial) → coefficient (sum_of r p q) m ≡ r (coefficient p m +ℤ coefficient q m)
coefficient_sum r ring p q h j m =
    sym (coefficient_is r ring (sum_of r p q) (sum_is r ring p q h j) m) ∙ weigh_sum r ring (λ n. one_at (order n m)) p q

pub coefficient_scaled : (r : ℤ → ℤ) → IsReduction r → (c : ℤ) (p : Polynomial) → IsPolynomial r p → (m : Monomial) → coefficient (scaled r ([], c) p) m ≡ r (c *ℤ coefficient p m)
coefficient_scaled r ring c p h m =
    sym (coefficient_is r ring (scaled r ([], c) p) (scaled_is r ring ([], c) p tt h) m) ∙ weigh_scaled r ring (λ n. one_at (order n m)) ([], c) p

-- the coefficient of a product: over all pairs of terms whose monomials multiply to m
pub coefficient_product : (r : ℤ → ℤ) → IsReduction r → (p q : Polynomial) → IsPolynomial r p → IsPolynomial r q → (m : Monomial) → coefficient (product_of r p q) m ≡ r (weigh (λ n. weigh (λ l. one_at (order (times n l) m)) q) p)
coefficient_product r ring p q h j m =
    sym (coefficient_is r ring (product_of r p q) (product_is r ring p q h j) m) ∙ weigh_product r ring (λ n. one_at (order n m)) p q

-- a sum that equals the list of terms has its laws, and so for products
pub sum_over : (r : ℤ → ℤ) → IsReduction r → (p q s : Polynomial) → s ≡ sum_of r p q → IsPolynomial r p → IsPolynomial r q → IsPolynomial r s
sum_over r ring p q s e h j = let P : Polynomial → Type 0 = λ x. IsPolynomial r x in subst P (sym e) (sum_is r ring p q h j)

pub sum_coefficients : (r : ℤ → ℤ) → IsReduction r → (p q s : Polynomial) → s ≡ sum_of r p q → IsPolynomial r p → IsPolynomial r q → (m : Monomial) → coefficient s m ≡ r (coefficient p m +ℤ coefficient q m)
sum_coefficients r ring p q s e h j m = ap (λ x. coefficient x m) e ∙ coefficient_sum r ring p q h j m

pub sum_values : (r : ℤ → ℤ) → IsReduction r → (p q s : Polynomial) → s ≡ sum_of r p q → (point : ℕ → ℤ) → r (value_of point s) ≡ r (value_of point p +ℤ value_of point q)
sum_values r ring p q s e point = ap (λ x. r (value_of point x)) e ∙ value_sum r ring point p q

pub scaled_over : (r : ℤ → ℤ) → IsReduction r → (c : ℤ) (p s : Polynomial) → s ≡ scaled r ([], c) p → IsPolynomial r p → IsPolynomial r s
scaled_over r ring c p s e h = let P : Polynomial → Type 0 = λ x. IsPolynomial r x in subst P (sym e) (scaled_is r ring ([], c) p tt h)

pub scaled_coefficients : (r : ℤ → ℤ) → IsReduction r → (c : ℤ) (p s : Polynomial) → s ≡ scaled r ([], c) p → IsPolynomial r p → (m : Monomial) → coefficient s m ≡ r (c *ℤ coefficient p m)
scaled_coefficients r ring c p s e h m = ap (λ x. coefficient x m) e ∙ coefficient_scaled r ring c p h m

pub scaled_values : (r : ℤ → ℤ) → IsReduction r → (c : ℤ) (p s : Polynomial) → s ≡ scaled r ([], c) p → (point : ℕ → ℤ) → r (value_of point s) ≡ r (c *ℤ value_of point p)
scaled_values r ring c p s e point =
    ap (λ x. r (value_of point x)) e
    ∙ value_scaled r ring point ([], c) p
    ∙ ap (λ x. r (c *ℤ x)) (int_one_mul (value_of point p))

pub product_over : (r : ℤ → ℤ) → IsReduction r → (p q s : Polynomial) → s ≡ product_of r p q → IsPolynomial r p → IsPolynomial r q → IsPolynomial r s
product_over r ring p q s e h j = let P : Polynomial → Type 0 = λ x. IsPolynomial r x in subst P (sym e) (product_is r ring p q h j)

pub product_coefficients : (r : ℤ → ℤ) → IsReduction r → (p q s : Polynomial) → s ≡ product_of r p q → IsPolynomial r p → IsPolynomial r q → (m : Monomial) → coefficient s m ≡ r (weigh (λ n. weigh (λ l. one_at (order (times n l) m)) q) p)
product_coefficients r ring p q s e h j m = ap (λ x. coefficient x m) e ∙ coefficient_product r ring p q h j m

pub product_values : (r : ℤ → ℤ) → IsReduction r → (p q s : Polynomial) → s ≡ product_of r p q → (point : ℕ → ℤ) → r (value_of point s) ≡ r (value_of point p *ℤ value_of point q)
product_values r ring p q s e point = ap (λ x. r (value_of point x)) e ∙ value_product r ring point p q

-- ---- numbers and powers

value_number : (r : ℤ → ℤ) → IsReduction r → (point : ℕ → ℤ) (n : ℤ) → r (value_of point (number_of r n)) ≡ r n
value_number r ring point n =
    let one : r n *ℤ pos 1 +ℤ pos 0 ≡ r n = int_add_zero (r n *ℤ pos 1) ∙ int_mul_one (r n) in
    ap r (weigh_front (monomial_value point) [] (r n) [] ∙ one) ∙ ring.twice n

pub number_values : (r : ℤ → ℤ) → IsReduction r → (n : ℤ) (s : Polynomial) → s ≡ number_of r n → (point : ℕ → ℤ) → r (value_of point s) ≡ r n
number_values r ring n s e point = ap (λ x. r (value_of point x)) e ∙ value_number r ring point n

value_power : (r : ℤ → ℤ) → IsReduction r → (point : ℕ → ℤ) (u k : ℕ) → r (value_of point (power_of r u k)) ≡ r (int_pow (point u) k)
value_power r ring point u zero = value_number r ring point (pos 1) ∙ ap r (sym (int_pow_zero (point u)))
value_power r ring point u (suc k) =
    let w = int_pow (point u) (suc k) *ℤ pos 1 in
    let one : pos 1 *ℤ w ≡ int_pow (point u) (suc k) = int_one_mul w ∙ int_mul_one (int_pow (point u) (suc k)) in
    ap r (weigh_front (monomial_value point) ((u, suc k) ∷ []) (r (pos 1)) [] ∙ int_add_zero (r (pos 1) *ℤ w))
    ∙ reduced_weight r ring (pos 1) w
    ∙ ap r one

pub power_values : (r : ℤ → ℤ) → IsReduction r → (u k : ℕ) (s : Polynomial) → s ≡ power_of r u k → (point : ℕ → ℤ) → r (value_of point s) ≡ r (int_pow (point u) k)
power_values r ring u k s e point = ap (λ x. r (value_of point x)) e ∙ value_power r ring point u k

pub unknown_values : (r : ℤ → ℤ) → IsReduction r → (u : ℕ) (s : Polynomial) → s ≡ power_of r u 1 → (point : ℕ → ℤ) → r (value_of point s) ≡ r (point u)
unknown_values r ring u s e point = power_values r ring u 1 s e point ∙ ap r (int_pow_one (point u))

value_raised : (r : ℤ → ℤ) → IsReduction r → (point : ℕ → ℤ) (p : Polynomial) (k : ℕ) → r (value_of point (raised_by r p k)) ≡ r (int_pow (value_of point p) k)
value_raised r ring point p zero = value_number r ring point (pos 1) ∙ ap r (sym (int_pow_zero (value_of point p)))
value_raised r ring point p (suc k) =
    let v = value_of point p in
    value_product r ring point (raised_by r p k) p
    ∙ ap r (int_mul_comm (value_of point (raised_by r p k)) v)
    ∙ ring.products (value_of point (raised_by r p k)) (int_pow v k) v (value_raised r ring point p k)
    ∙ ap r (sym (int_pow_suc v k))

pub raised_values : (r : ℤ → ℤ) → IsReduction r → (p : Polynomial) (k : ℕ) (s : Polynomial) → s ≡ raised_by r p k → (point : ℕ → ℤ) → r (value_of point s) ≡ r (int_pow (value_of point p) k)
raised_values r ring p k s e point = ap (λ x. r (value_of point x)) e ∙ value_raised r ring point p k

-- the product with -1
pub negated_values : (r : ℤ → ℤ) → IsReduction r → (p s : Polynomial) → s ≡ scaled r ([], negsuc 0) p → (point : ℕ → ℤ) → r (value_of point s) ≡ r (neg_ℤ (value_of point p))
negated_values r ring p s e point = scaled_values r ring (negsuc 0) p s e point ∙ ap r (int_minus_one_mul (value_of point p))

pub raised_is : (r : ℤ → ℤ) → IsReduction r → (p : Polynomial) (k : ℕ) → IsPolynomial r p → IsPolynomial r (raised_by r p k)
raised_is r ring p zero h = number_is r ring (pos 1)
raised_is r ring p (suc k) h = product_is r ring (raised_by r p k) p (raised_is r ring p k h) h

pub raised_over : (r : ℤ → ℤ) → IsReduction r → (p : Polynomial) (k : ℕ) (s : Polynomial) → s ≡ raised_by r p k → IsPolynomial r p → IsPolynomial r s
raised_over r ring p k s e h = let P : Polynomial → Type 0 = λ x. IsPolynomial r x in subst P (sym e) (raised_is r ring p k h)
