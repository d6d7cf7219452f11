-- Over whole numbers the norm of a sum is at most the sum of the norms, and that of a product at most their product.
-- So where the bound is not too great no coefficient on the way is.
use Rattle.std.proofs.Common.{◌≡◌, ℕ, zero, suc, ◌+◌, ◌*◌, ◌≤◌, ◌^◌, min, refl, ◌∙◌, ap, arith, true, false, leb, [], ◌∷◌, ◌++◌, Ordering, Less, Equal, Greater, ℤ, pos, negsuc, ◌+ℤ◌, ◌*ℤ◌, unsigned_abs, Option, Some, None}
use Rattle.std.proofs.lemmas.Int.{unsigned_abs-mul}
use Rattle.std.proofs.lemmas.Bool.Decides.{nat_tests}
use Rattle.std.proofs.Math.Nat.{mul-le-mul_left}
use Rattle.tcl_num.proofs.IntegerOrder.{unsigned_abs_add}
use Rattle.tcl_ring.specs.Reduction.{reduced_by, is_wide}
use Rattle.tcl_poly.specs.Monomial.{Monomial, times, order}
use Rattle.tcl_poly.specs.Polynomial.{Term, Polynomial, front, add_at, add_term, sum_of, scaled, product_of, norm_of}

abbrev whole : ℤ → ℤ
whole n = n

norm_front : (m : Monomial) (c : ℤ) (p : Polynomial) → norm_of (front m c p) ≡ unsigned_abs c + norm_of p
norm_front m (pos zero) p = omega arith
norm_front m (pos (suc n)) p = refl
norm_front m (negsuc n) p = refl

norm_add_at : (o : Ordering) (t u : Term) (p further : Polynomial) → norm_of further ≤ unsigned_abs t.1 + norm_of p → norm_of (add_at whole o t u p further) ≤ unsigned_abs t.1 + norm_of (u ∷ p)
norm_add_at Less t u p further h = omega (arith, h)
norm_add_at Equal t u p further h = omega (arith, norm_front u.0 (t.1 +ℤ u.1) p, unsigned_abs_add t.1 u.1)
norm_add_at Greater t u p further h = omega arith

norm_add_term : (t : Term) (p : Polynomial) → norm_of (add_term whole t p) ≤ unsigned_abs t.1 + norm_of p
norm_add_term t [] = omega arith
norm_add_term t (u ∷ p) = norm_add_at (order t.0 u.0) t u p (add_term whole t p) (norm_add_term t p)

pub norm_sum : (p q : Polynomial) → norm_of (sum_of (reduced_by None) p q) ≤ norm_of p + norm_of q
norm_sum [] q = omega arith
norm_sum (t ∷ p) q = omega (arith, norm_add_term t (sum_of (reduced_by None) p q), norm_sum p q)

pub norm_scaled : (t : Term) (p : Polynomial) → norm_of (scaled (reduced_by None) t p) ≡ unsigned_abs t.1 * norm_of p
norm_scaled t [] = omega arith
norm_scaled t (u ∷ p) =
    norm_front (times t.0 u.0) (t.1 *ℤ u.1) (scaled (reduced_by None) t p)
    ∙ omega (arith, unsigned_abs-mul t.1 u.1, norm_scaled t p)

pub norm_product : (p q : Polynomial) → norm_of (product_of (reduced_by None) p q) ≤ norm_of p * norm_of q
norm_product [] q = omega arith
norm_product (t ∷ p) q =
    omega (arith, norm_sum (scaled (reduced_by None) t q) (product_of (reduced_by None) p q), norm_scaled t q, norm_product p q)

pub norm_append : (p q : Polynomial) → norm_of (p ++ q) ≡ norm_of p + norm_of q
norm_append [] q = omega arith
norm_append (t ∷ p) q = omega (arith, norm_append p q)

-- ---- what is not too great

narrow_whole : (a b limit : ℕ) → leb limit a ≡ false → b ≤ a → leb limit b ≡ false
narrow_whole a b limit e h = grind (arith, nat_tests)

-- what is at most a magnitude that is not too great is not too great
pub narrower : (m : Option ℕ) (a b : ℕ) → is_wide m a ≡ false → b ≤ a → is_wide m b ≡ false
narrower None a b e h = narrow_whole a b (2 ^ 127) e h
narrower (Some m) a b e h = refl

wide_whole : (a b limit : ℕ) → leb limit a ≡ true → a ≤ b → leb limit b ≡ true
wide_whole a b limit e h = grind (arith, nat_tests)

saturated_whole : (n limit : ℕ) → leb limit (min n limit) ≡ leb limit n
saturated_whole n limit = grind (arith, nat_tests)

-- a count that stops at the limit tells the same
pub wide_saturated : (m : Option ℕ) (n : ℕ) → is_wide m (min n (2 ^ 127)) ≡ is_wide m n
wide_saturated None n = saturated_whole n (2 ^ 127)
wide_saturated (Some m) n = refl

-- a sum of two coefficients
pub sum_narrow : (m : Option ℕ) (a b : ℤ) (n : ℕ) → is_wide m n ≡ false → unsigned_abs a + unsigned_abs b ≤ n → is_wide m (unsigned_abs (a +ℤ b)) ≡ false
sum_narrow m a b n e h = narrower m n (unsigned_abs (a +ℤ b)) e (omega (arith, unsigned_abs_add a b))

-- the two halves of a product
pub halves_narrow : (m : Option ℕ) (p q s : Polynomial) → is_wide m (norm_of (p ++ q) * norm_of s) ≡ false → is_wide m (norm_of (product_of (reduced_by m) p s) + norm_of (product_of (reduced_by m) q s)) ≡ false
halves_narrow (Some m) p q s e = refl
halves_narrow None p q s e =
    narrower None (norm_of (p ++ q) * norm_of s) (norm_of (product_of (reduced_by None) p s) + norm_of (product_of (reduced_by None) q s)) e
    (omega (arith, norm_product p s, norm_product q s, ap (λ x. x * norm_of s) (norm_append p q)))

-- a product of two coefficients
pub product_narrow : (m : Option ℕ) (a b : ℤ) (n : ℕ) → is_wide m (unsigned_abs a * n) ≡ false → unsigned_abs b ≤ n → is_wide m (unsigned_abs (a *ℤ b)) ≡ false
product_narrow m a b n e h =
    narrower m (unsigned_abs a * n) (unsigned_abs (a *ℤ b)) e (omega (arith, unsigned_abs-mul a b, mul-le-mul_left (unsigned_abs a) h))
