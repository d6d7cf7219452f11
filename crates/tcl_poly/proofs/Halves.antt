-- The halves of a list of terms, and the product by halves.
use Rattle.std.proofs.Common.{◌≡◌, ℕ, zero, suc, ◌+◌, ◌*◌, ◌<◌, ◌≤◌, refl, sym, ◌∙◌, ap, subst, arith, false, List, [], ◌∷◌, ◌++◌, length, take, drop, get_or, ℤ, unsigned_abs, Option}
use Rattle.std.proofs.Math.Nat.{mul-le-mul_right}
use Rattle.tcl_ring.specs.Reduction.{IsReduction, reduced_by, is_wide}
use Rattle.tcl_poly.specs.Monomial.{Monomial}
use Rattle.tcl_poly.specs.Polynomial.{Polynomial, IsPolynomial, terms_of, sum_of, scaled, product_of, norm_of, degree_of}
use Rattle.tcl_poly.proofs.RingLaws.{front_part, back_part, product_front, sum_nothing}
use Rattle.tcl_poly.proofs.Canonical.{scaled_is}
use Rattle.tcl_poly.proofs.Norms.{narrower, halves_narrow, norm_append}
use Rattle.tcl_poly.proofs.Degrees.{IsWithin, degree_within, within_degree}
use Rattle.tcl_poly.proofs.TermLists.{degree_of_values, coefficient_norm}

-- the terms are those of the two halves
pub split : {E : Type 0} (value : E → ℤ) (a : List (Monomial × E)) (n : ℕ) → terms_of value a ≡ terms_of value (take n a) ++ terms_of value (drop n a)
split value [] zero = refl
split value [] (suc n) = refl
split value (t ∷ a) zero = refl
split value (t ∷ a) (suc n) = ap (λ p. (t.0, value t.1) ∷ p) (split value a n)

pub front_over : {E : Type 0} (r : ℤ → ℤ) (value : E → ℤ) (a x : List (Monomial × E)) (n : ℕ) → x ≡ take n a → IsPolynomial r (terms_of value a) → IsPolynomial r (terms_of value x)
front_over r value a x n e h =
    let P : Polynomial → Type 0 = λ p. IsPolynomial r p in
    subst P (ap (terms_of value) (sym e)) (front_part r (terms_of value (take n a)) (terms_of value (drop n a)) (subst P (split value a n) h))

pub back_over : {E : Type 0} (r : ℤ → ℤ) (value : E → ℤ) (a x : List (Monomial × E)) (n : ℕ) → x ≡ drop n a → IsPolynomial r (terms_of value a) → IsPolynomial r (terms_of value x)
back_over r value a x n e h =
    let P : Polynomial → Type 0 = λ p. IsPolynomial r p in
    subst P (ap (terms_of value) (sym e)) (back_part r (terms_of value (take n a)) (terms_of value (drop n a)) (subst P (split value a n) h))

take_degree : {E : Type 0} (a : List (Monomial × E)) (n : ℕ) → degree_of (take n a) ≤ degree_of a
take_degree [] zero = omega arith
take_degree [] (suc n) = omega arith
take_degree (t ∷ a) zero = omega arith
take_degree (t ∷ a) (suc n) = omega arith

pub front_degree : {E : Type 0} (a x : List (Monomial × E)) (n : ℕ) → x ≡ take n a → degree_of x ≤ degree_of a
front_degree a x n e = omega (arith, take_degree a n, ap degree_of e)

within_drop : {E : Type 0} (k : ℕ) (value : E → ℤ) (a : List (Monomial × E)) (n : ℕ) → IsWithin k (terms_of value a) → IsWithin k (terms_of value (drop n a))
within_drop k value [] zero i = i
within_drop k value [] (suc n) i = i
within_drop k value (t ∷ a) zero i = i
within_drop k value (t ∷ a) (suc n) i = within_drop k value a n i.1

pub back_degree : {E : Type 0} (r : ℤ → ℤ) (value : E → ℤ) (a x : List (Monomial × E)) (n : ℕ) → x ≡ drop n a → IsPolynomial r (terms_of value a) → degree_of x ≤ degree_of a
back_degree r value a x n e h =
    let k = degree_of (terms_of value a) in
    let below = within_degree k (terms_of value (drop n a)) (within_drop k value a n (degree_within r (terms_of value a) h)) in
    omega (arith, below, degree_of_values value a, degree_of_values value (drop n a), ap degree_of e)

front_norm : {E : Type 0} (value : E → ℤ) (a x : List (Monomial × E)) (n : ℕ) → x ≡ take n a → norm_of (terms_of value x) ≤ norm_of (terms_of value a)
front_norm value a x n e =
    omega (arith, ap norm_of (split value a n), norm_append (terms_of value (take n a)) (terms_of value (drop n a)), ap (λ p. norm_of (terms_of value p)) e)

back_norm : {E : Type 0} (value : E → ℤ) (a x : List (Monomial × E)) (n : ℕ) → x ≡ drop n a → norm_of (terms_of value x) ≤ norm_of (terms_of value a)
back_norm value a x n e =
    omega (arith, ap norm_of (split value a n), norm_append (terms_of value (take n a)) (terms_of value (drop n a)), ap (λ p. norm_of (terms_of value p)) e)

pub front_fits : {E : Type 0} (m : Option ℕ) (value : E → ℤ) (a x : List (Monomial × E)) (n k : ℕ) → x ≡ take n a → is_wide m (norm_of (terms_of value a) * k) ≡ false → is_wide m (norm_of (terms_of value x) * k) ≡ false
front_fits m value a x n k e f = narrower m (norm_of (terms_of value a) * k) (norm_of (terms_of value x) * k) f (mul-le-mul_right k (front_norm value a x n e))

pub back_fits : {E : Type 0} (m : Option ℕ) (value : E → ℤ) (a x : List (Monomial × E)) (n k : ℕ) → x ≡ drop n a → is_wide m (norm_of (terms_of value a) * k) ≡ false → is_wide m (norm_of (terms_of value x) * k) ≡ false
back_fits m value a x n k e f = narrower m (norm_of (terms_of value a) * k) (norm_of (terms_of value x) * k) f (mul-le-mul_right k (back_norm value a x n e))

-- the products of the halves are together as narrow as the whole
pub products_fit : {E : Type 0} (m : Option ℕ) (value : E → ℤ) (a x y : List (Monomial × E)) (n : ℕ) (s high low : Polynomial) → x ≡ take n a → y ≡ drop n a → high ≡ product_of (reduced_by m) (terms_of value x) s → low ≡ product_of (reduced_by m) (terms_of value y) s → is_wide m (norm_of (terms_of value a) * norm_of s) ≡ false → is_wide m (norm_of high + norm_of low) ≡ false
products_fit m value a x y n s high low e f h l fits =
    let p = terms_of value (take n a) in let q = terms_of value (drop n a) in
    let whole : is_wide m (norm_of (p ++ q) * norm_of s) ≡ false = ap (λ z. is_wide m (norm_of z * norm_of s)) (sym (split value a n)) ∙ fits in
    let first : high ≡ product_of (reduced_by m) p s = h ∙ ap (λ z. product_of (reduced_by m) (terms_of value z) s) e in
    let second : low ≡ product_of (reduced_by m) q s = l ∙ ap (λ z. product_of (reduced_by m) (terms_of value z) s) f in
    (λ i. is_wide m (norm_of (first i) + norm_of (second i))) ∙ halves_narrow m p q s whole

pub product_of_halves : {E : Type 0} (r : ℤ → ℤ) → IsReduction r → (value : E → ℤ) (a x y : List (Monomial × E)) (n : ℕ) (s high low : Polynomial) → x ≡ take n a → y ≡ drop n a → high ≡ product_of r (terms_of value x) s → low ≡ product_of r (terms_of value y) s → IsPolynomial r (terms_of value a) → IsPolynomial r s → sum_of r high low ≡ product_of r (terms_of value a) s
product_of_halves r ring value a x y n s high low e f h l i j =
    let p = terms_of value (take n a) in let q = terms_of value (drop n a) in
    let P : Polynomial → Type 0 = λ z. IsPolynomial r z in
    let first : high ≡ product_of r p s = h ∙ ap (λ z. product_of r (terms_of value z) s) e in
    let second : low ≡ product_of r q s = l ∙ ap (λ z. product_of r (terms_of value z) s) f in
    (λ t. sum_of r (first t) (second t))
    ∙ sym (product_front r ring p q s (subst P (split value a n) i) j)
    ∙ ap (λ z. product_of r z s) (sym (split value a n))

-- a product with a single term
pub product_of_one : {E : Type 0} (r : ℤ → ℤ) → IsReduction r → (value : E → ℤ) (a : List (Monomial × E)) (t : Monomial × E) (s : Polynomial) → t ≡ get_or a 0 t → length a ≡ 1 → IsPolynomial r (terms_of value a) → IsPolynomial r s → scaled r (t.0, value t.1) s ≡ product_of r (terms_of value a) s
product_of_one r ring value [] t s e h i j = absurd (omega arith)
product_of_one r ring value (u ∷ []) t s e h i j =
    ap (λ z. scaled r (z.0, value z.1) s) e
    ∙ sym (sum_nothing r ring (scaled r (u.0, value u.1) s) (scaled_is r ring (u.0, value u.1) s i.0 j))
product_of_one r ring value (u ∷ (v ∷ a)) t s e h i j = absurd (omega arith)

-- a list with no terms
pub product_of_none : {E : Type 0} (r : ℤ → ℤ) (value : E → ℤ) (a : List (Monomial × E)) (s : Polynomial) → length a ≡ 0 → [] ≡ product_of r (terms_of value a) s
product_of_none r value [] s h = refl
product_of_none r value (t ∷ a) s h = absurd (omega arith)

-- a single term's product is as narrow
pub one_fits : {E : Type 0} (m : Option ℕ) (value : E → ℤ) (a : List (Monomial × E)) (t : Monomial × E) (k : ℕ) → t ≡ get_or a 0 t → 0 < length a → is_wide m (norm_of (terms_of value a) * k) ≡ false → is_wide m (unsigned_abs (value t.1) * k) ≡ false
one_fits m value a t k e h f = narrower m (norm_of (terms_of value a) * k) (unsigned_abs (value t.1) * k) f (mul-le-mul_right k (coefficient_norm value a 0 t e h))
