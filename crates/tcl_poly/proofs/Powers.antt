-- The norms and degrees of the powers of a polynomial, on the way to one whose bound is not too great.
use Rattle.std.proofs.Common.{◌≡◌, ℕ, zero, suc, max, ◌+◌, ◌*◌, ◌^◌, ◌<◌, ◌≤◌, refl, sym, ◌∙◌, ap, arith, false, [], ◌∷◌, ℤ, pos, negsuc, Option, Some, None}
use Rattle.std.proofs.Math.Nat.{pow-zero, pow-suc, pow-le-pow_right, mul-le-mul, mul-le-mul_right}
use Rattle.tcl_ring.specs.Reduction.{reduced_by, is_wide}
use Rattle.tcl_poly.specs.Monomial.{Monomial, degree}
use Rattle.tcl_poly.specs.Polynomial.{Polynomial, IsPolynomial, front, number_of, product_of, raised_by, norm_of, degree_of}
use Rattle.tcl_poly.proofs.Norms.{narrower, norm_product}
use Rattle.tcl_poly.proofs.Degrees.{IsWithin, within_more, degree_within, within_degree, within_product}

-- the factor by which a power grows at most
growth : Polynomial → ℕ
growth p = max 1 (norm_of p)

raised_norm : (p : Polynomial) (k : ℕ) → norm_of (raised_by (reduced_by None) p k) ≤ growth p ^ k
unfolding growth
raised_norm p zero = omega (arith, pow-zero (max 1 (norm_of p)))
raised_norm p (suc k) =
    let n = norm_of (raised_by (reduced_by None) p k) in
    let grown : n * norm_of p ≤ max 1 (norm_of p) ^ k * max 1 (norm_of p) = mul-le-mul (raised_norm p k) (omega arith) in
    omega (arith, norm_product (raised_by (reduced_by None) p k) p, grown, pow-suc (max 1 (norm_of p)) k)

-- the next power, against the last one
next_norm : (p : Polynomial) (j k : ℕ) → suc j ≤ k → norm_of (raised_by (reduced_by None) p j) * norm_of p ≤ growth p ^ k
unfolding growth
next_norm p j k h =
    let grown : norm_of (raised_by (reduced_by None) p j) * norm_of p ≤ max 1 (norm_of p) ^ j * max 1 (norm_of p) = mul-le-mul (raised_norm p j) (omega arith) in
    let rises : max 1 (norm_of p) ^ suc j ≤ max 1 (norm_of p) ^ k = pow-le-pow_right (omega arith) h in
    omega (arith, grown, rises, pow-suc (max 1 (norm_of p)) j)

one_power : (k : ℕ) → 1 ^ k ≡ 1
one_power zero = pow-zero 1
one_power (suc k) = omega (arith, pow-suc 1 k, one_power k)

narrow_growth : (n k : ℕ) → is_wide None (n ^ k) ≡ false → is_wide None (max 1 n ^ k) ≡ false
narrow_growth zero k h = ap (is_wide None) (one_power k)
narrow_growth (suc n) k h =
    let one : max 1 (suc n) ≡ suc n = omega arith in
    ap (λ x. is_wide None (x ^ k)) one ∙ h

pub next_fits : (m : Option ℕ) (p power : Polynomial) (j k : ℕ) → power ≡ raised_by (reduced_by m) p j → suc j ≤ k → is_wide m (norm_of p ^ k) ≡ false → is_wide m (norm_of power * norm_of p) ≡ false
unfolding growth
next_fits None p power j k e h f =
    narrower None (max 1 (norm_of p) ^ k) (norm_of power * norm_of p) (narrow_growth (norm_of p) k f)
    (omega (arith, next_norm p j k h, ap (λ x. norm_of x * norm_of p) e))
next_fits (Some m) p power j k e h f = refl

within_number : (r : ℤ → ℤ) (n : ℤ) → IsWithin 0 (number_of r n)
within_number r n = at (r n)
  where
    at : (c : ℤ) → IsWithin 0 (front [] c [])
    at (pos zero) = tt
    at (pos (suc k)) = (omega arith, tt)
    at (negsuc k) = (omega arith, tt)

raised_within : (r : ℤ → ℤ) (p : Polynomial) (k : ℕ) → IsPolynomial r p → IsWithin (k * degree_of p) (raised_by r p k)
raised_within r p zero h = within_more 0 (0 * degree_of p) (raised_by r p 0) (omega arith) (within_number r (pos 1))
raised_within r p (suc k) h =
    within_more (k * degree_of p + degree_of p) (suc k * degree_of p) (raised_by r p (suc k)) (omega arith)
    (within_product r (k * degree_of p) (degree_of p) (raised_by r p k) p (raised_within r p k h) (degree_within r p h))

pub next_degree : (r : ℤ → ℤ) (p power : Polynomial) (j k : ℕ) → power ≡ raised_by r p j → suc j ≤ k → IsPolynomial r p → degree_of power + degree_of p ≤ k * degree_of p
next_degree r p power j k e h i =
    let rises : suc j * degree_of p ≤ k * degree_of p = mul-le-mul_right (degree_of p) h in
    omega (arith, rises, within_degree (j * degree_of p) (raised_by r p j) (raised_within r p j i), ap degree_of e)
