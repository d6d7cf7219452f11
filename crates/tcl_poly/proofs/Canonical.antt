-- Each operation gives a polynomial in canonical form, and canonical polynomials with equal coefficients are equal.
use Rattle.std.proofs.Common.{◌≡◌, ℕ, zero, suc, refl, sym, ◌∙◌, ap, subst, arith, [], ◌∷◌, Ordering, Less, Equal, Greater, ℤ, pos, negsuc, ◌+ℤ◌, ◌*ℤ◌}
use Rattle.std.proofs.lemmas.Int.{ints}
use Rattle.tcl_num.proofs.IntegerRing.{int_mul_zero, int_mul_one, int_zero_add, int_add_zero}
use Rattle.tcl_ring.specs.Reduction.{IsReduction}
use Rattle.tcl_poly.specs.Monomial.{Monomial, IsMonomial, IsLess, times, order}
use Rattle.tcl_poly.specs.Polynomial.{Term, Polynomial, IsUnder, IsPolynomial, front, add_at, add_term, sum_of, scaled, product_of, weigh, one_at, coefficient, number_of, power_of}
use Rattle.tcl_poly.proofs.MonomialLaws.{less_chain, less_self, less_times, times_monomial, order_says, order_same, order_itself, OrderSays, less_equal, greater_equal}

pub under_chain : (m n : Monomial) (p : Polynomial) → IsLess m n → IsUnder m p → IsUnder n p
under_chain m n [] h u = tt
under_chain m n (t ∷ p) h u = (less_chain t.0 m n u.0 h, under_chain m n p h u.1)

under_front : (n m : Monomial) (c : ℤ) (p : Polynomial) → IsLess m n → IsUnder n p → IsUnder n (front m c p)
under_front n m (pos zero) p h u = u
under_front n m (pos (suc k)) p h u = (h, u)
under_front n m (negsuc k) p h u = (h, u)

positive : (k : ℕ) → pos (suc k) ≡ pos 0 → ⊥
positive k e = absurd (omega (arith, ints, e))

negative : (k : ℕ) → negsuc k ≡ pos 0 → ⊥
negative k e = absurd (omega (arith, ints, e))

pub front_is : (r : ℤ → ℤ) (m : Monomial) (c : ℤ) (p : Polynomial) → IsMonomial m → r c ≡ c → IsUnder m p → IsPolynomial r p → IsPolynomial r (front m c p)
front_is r m (pos zero) p i e u h = h
front_is r m (pos (suc k)) p i e u h = (i, λ z. positive k z, e, u, h)
front_is r m (negsuc k) p i e u h = (i, λ z. negative k z, e, u, h)

-- what an added term keeps: the bound of all monomials, and the form
under_add_at : (r : ℤ → ℤ) (n : Monomial) (o : Ordering) (t u : Term) (p further : Polynomial) → IsLess t.0 n → IsUnder n (u ∷ p) → IsUnder n further → IsUnder n (add_at r o t u p further)
under_add_at r n Less t u p further h i j = (i.0, j)
under_add_at r n Equal t u p further h i j = under_front n u.0 (r (t.1 +ℤ u.1)) p i.0 i.1
under_add_at r n Greater t u p further h i j = (h, i)

pub under_add_term : (r : ℤ → ℤ) (n : Monomial) (t : Term) (p : Polynomial) → IsLess t.0 n → IsUnder n p → IsUnder n (add_term r t p)
under_add_term r n t [] h i = (h, tt)
under_add_term r n t (u ∷ p) h i = under_add_at r n (order t.0 u.0) t u p (add_term r t p) h i (under_add_term r n t p h i.1)

add_at_is : (r : ℤ → ℤ) → IsReduction r → (o : Ordering) (t u : Term) (p further : Polynomial) → OrderSays o t.0 u.0 → IsMonomial t.0 → (t.1 ≡ pos 0 → ⊥) → r t.1 ≡ t.1 → IsPolynomial r (u ∷ p) → (IsLess t.0 u.0 → IsUnder u.0 further) → IsPolynomial r further → IsPolynomial r (add_at r o t u p further)
add_at_is r ring Less t u p further s i z e h under j = (h.0, h.1, h.2, under s, j)
add_at_is r ring Equal t u p further s i z e h under j = front_is r u.0 (r (t.1 +ℤ u.1)) p h.0 (ring.twice (t.1 +ℤ u.1)) h.3 h.4
add_at_is r ring Greater t u p further s i z e h under j = (i, z, e, (s, under_chain u.0 t.0 p s h.3), h)

pub add_term_is : (r : ℤ → ℤ) → IsReduction r → (t : Term) (p : Polynomial) → IsMonomial t.0 → (t.1 ≡ pos 0 → ⊥) → r t.1 ≡ t.1 → IsPolynomial r p → IsPolynomial r (add_term r t p)
add_term_is r ring t [] i z e h = (i, z, e, tt, tt)
add_term_is r ring t (u ∷ p) i z e h =
    add_at_is r ring (order t.0 u.0) t u p (add_term r t p) (order_says t.0 u.0 i h.0) i z e h
    (λ less. under_add_term r u.0 t p less h.3) (add_term_is r ring t p i z e h.4)

pub under_sum : (r : ℤ → ℤ) (n : Monomial) (p q : Polynomial) → IsUnder n p → IsUnder n q → IsUnder n (sum_of r p q)
under_sum r n [] q i j = j
under_sum r n (t ∷ p) q i j = under_add_term r n t (sum_of r p q) i.0 (under_sum r n p q i.1 j)

pub sum_is : (r : ℤ → ℤ) → IsReduction r → (p q : Polynomial) → IsPolynomial r p → IsPolynomial r q → IsPolynomial r (sum_of r p q)
sum_is r ring [] q h j = j
sum_is r ring (t ∷ p) q h j = add_term_is r ring t (sum_of r p q) h.0 h.1 h.2 (sum_is r ring p q h.4 j)

under_scaled : (r : ℤ → ℤ) (n : Monomial) (t : Term) (p : Polynomial) → IsUnder n p → IsUnder (times t.0 n) (scaled r t p)
under_scaled r n t [] i = tt
under_scaled r n t (u ∷ p) i =
    under_front (times t.0 n) (times t.0 u.0) (r (t.1 *ℤ u.1)) (scaled r t p) (less_times t.0 u.0 n i.0) (under_scaled r n t p i.1)

pub scaled_is : (r : ℤ → ℤ) → IsReduction r → (t : Term) (p : Polynomial) → IsMonomial t.0 → IsPolynomial r p → IsPolynomial r (scaled r t p)
scaled_is r ring t [] i h = tt
scaled_is r ring t (u ∷ p) i h =
    front_is r (times t.0 u.0) (r (t.1 *ℤ u.1)) (scaled r t p) (times_monomial 0 t.0 u.0 i h.0) (ring.twice (t.1 *ℤ u.1))
    (under_scaled r u.0 t p h.3) (scaled_is r ring t p i h.4)

pub product_is : (r : ℤ → ℤ) → IsReduction r → (p q : Polynomial) → IsPolynomial r p → IsPolynomial r q → IsPolynomial r (product_of r p q)
product_is r ring [] q h j = tt
product_is r ring (t ∷ p) q h j =
    sum_is r ring (scaled r t q) (product_of r p q) (scaled_is r ring t q h.0 j) (product_is r ring p q h.4 j)

-- ---- coefficients

nothing_at : (o : Ordering) (c w : ℤ) → (o ≡ Equal → ⊥) → c *ℤ one_at o +ℤ w ≡ w
nothing_at Less c w n = ap (λ x. x +ℤ w) (int_mul_zero c) ∙ int_zero_add w
nothing_at Equal c w n = absurd (n refl)
nothing_at Greater c w n = ap (λ x. x +ℤ w) (int_mul_zero c) ∙ int_zero_add w

-- a monomial above all of p has the coefficient 0
pub no_coefficient : (m : Monomial) (p : Polynomial) → IsUnder m p → coefficient p m ≡ pos 0
no_coefficient m [] u = refl
no_coefficient m (t ∷ p) u =
    nothing_at (order t.0 m) t.1 (coefficient p m) (λ e. let P : Monomial → Type 0 = λ x. IsLess x m in less_self m (subst P (order_same t.0 m e) u.0))
    ∙ no_coefficient m p u.1

pub first_coefficient : (r : ℤ → ℤ) (t : Term) (p : Polynomial) → IsPolynomial r (t ∷ p) → coefficient (t ∷ p) t.0 ≡ t.1
first_coefficient r t p h =
    ap (λ o. t.1 *ℤ one_at o +ℤ coefficient p t.0) (order_itself t.0)
    ∙ ap (λ x. x +ℤ coefficient p t.0) (int_mul_one t.1)
    ∙ ap (λ x. t.1 +ℤ x) (no_coefficient t.0 p h.3)
    ∙ int_add_zero t.1

same_terms : (t u : Term) (p q : Polynomial) → t.0 ≡ u.0 → t.1 ≡ u.1 → p ≡ q → (t ∷ p) ≡ (u ∷ q)
same_terms t u p q e f s = λ i. (e i, f i) ∷ s i

-- the tails of polynomials with equal coefficients and equal first terms
tails : (t u : Term) (p q : Polynomial) → t.0 ≡ u.0 → t.1 ≡ u.1 → ((m : Monomial) → coefficient (t ∷ p) m ≡ coefficient (u ∷ q) m) → (m : Monomial) → coefficient p m ≡ coefficient q m
tails t u p q e f s m =
    let here : t.1 *ℤ one_at (order t.0 m) ≡ u.1 *ℤ one_at (order u.0 m) = λ i. f i *ℤ one_at (order (e i) m) in
    omega (arith, ints, here, s m)

same_poly_at : (r : ℤ → ℤ) (o : Ordering) (t u : Term) (p q : Polynomial) → OrderSays o t.0 u.0 → IsPolynomial r (t ∷ p) → IsPolynomial r (u ∷ q) → ((m : Monomial) → coefficient (t ∷ p) m ≡ coefficient (u ∷ q) m) → (((m : Monomial) → coefficient p m ≡ coefficient q m) → p ≡ q) → (t ∷ p) ≡ (u ∷ q)
same_poly_at r Less t u p q s h j e more =
    absurd (j.1 (sym (first_coefficient r u q j) ∙ sym (e u.0) ∙ no_coefficient u.0 (t ∷ p) (s, under_chain t.0 u.0 p s h.3)))
same_poly_at r Greater t u p q s h j e more =
    absurd (h.1 (sym (first_coefficient r t p h) ∙ e t.0 ∙ no_coefficient t.0 (u ∷ q) (s, under_chain u.0 t.0 q s j.3)))
same_poly_at r Equal t u p q s h j e more =
    let first : t.1 ≡ u.1 = sym (first_coefficient r t p h) ∙ e t.0 ∙ ap (coefficient (u ∷ q)) s ∙ first_coefficient r u q j in
    same_terms t u p q s first (more (tails t u p q s first e))

-- canonical polynomials with equal coefficients are equal
pub same_poly : (r : ℤ → ℤ) (p q : Polynomial) → IsPolynomial r p → IsPolynomial r q → ((m : Monomial) → coefficient p m ≡ coefficient q m) → p ≡ q
same_poly r [] [] h j e = refl
same_poly r [] (u ∷ q) h j e = absurd (j.1 (sym (first_coefficient r u q j) ∙ sym (e u.0)))
same_poly r (t ∷ p) [] h j e = absurd (h.1 (sym (first_coefficient r t p h) ∙ e t.0))
same_poly r (t ∷ p) (u ∷ q) h j e =
    same_poly_at r (order t.0 u.0) t u p q (order_says t.0 u.0 h.0 j.0) h j e (λ f. same_poly r p q h.4 j.4 f)

-- a coefficient is an element of the ring
coefficient_at : (r : ℤ → ℤ) (o : Ordering) (c w : ℤ) → r c ≡ c → (o ≡ Equal → w ≡ pos 0) → r w ≡ w → r (c *ℤ one_at o +ℤ w) ≡ c *ℤ one_at o +ℤ w
coefficient_at r Less c w e n f = ap r (nothing_at Less c w less_equal) ∙ f ∙ sym (nothing_at Less c w less_equal)
coefficient_at r Greater c w e n f = ap r (nothing_at Greater c w greater_equal) ∙ f ∙ sym (nothing_at Greater c w greater_equal)
coefficient_at r Equal c w e n f =
    let whole : c *ℤ pos 1 +ℤ w ≡ c = ap (λ x. x +ℤ w) (int_mul_one c) ∙ ap (λ x. c +ℤ x) (n refl) ∙ int_add_zero c in
    ap r whole ∙ e ∙ sym whole

pub coefficient_is : (r : ℤ → ℤ) → IsReduction r → (p : Polynomial) → IsPolynomial r p → (m : Monomial) → r (coefficient p m) ≡ coefficient p m
coefficient_is r ring [] h m = ring.null
coefficient_is r ring (t ∷ p) h m =
    coefficient_at r (order t.0 m) t.1 (coefficient p m) h.2
    (λ e. let P : Monomial → Type 0 = λ x. IsUnder x p in no_coefficient m p (subst P (order_same t.0 m e) h.3))
    (coefficient_is r ring p h.4 m)

-- polynomials that no weight tells apart in the ring are equal
pub same_alike : (r : ℤ → ℤ) → IsReduction r → (p q : Polynomial) → IsPolynomial r p → IsPolynomial r q → ((φ : Monomial → ℤ) → r (weigh φ p) ≡ r (weigh φ q)) → p ≡ q
same_alike r ring p q h j e =
    same_poly r p q h j (λ m. sym (coefficient_is r ring p h m) ∙ e (λ n. one_at (order n m)) ∙ coefficient_is r ring q j m)

-- ---- constants and powers of unknowns

pub number_is : (r : ℤ → ℤ) → IsReduction r → (n : ℤ) → IsPolynomial r (number_of r n)
number_is r ring n = front_is r [] (r n) [] tt (ring.twice n) tt tt

pub power_is : (r : ℤ → ℤ) → IsReduction r → (key k : ℕ) → IsPolynomial r (power_of r key k)
power_is r ring key zero = number_is r ring (pos 1)
power_is r ring key (suc k) = front_is r ((key, suc k) ∷ []) (r (pos 1)) [] (omega arith, omega arith, tt) (ring.twice (pos 1)) tt tt
