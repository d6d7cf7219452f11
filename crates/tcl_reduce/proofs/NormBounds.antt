-- Over whole numbers the norms of one substitution, on the way too, are at most the norm of f and the bound together.
use Rattle.std.proofs.Common.{◌≡◌, ℕ, zero, suc, max, ◌+◌, ◌*◌, ◌^◌, ◌<◌, ◌≤◌, ◌==◌, refl, sym, ap, arith, Bool, true, false, if◌then◌else◌, [], ◌∷◌, inl, inr, false-eqb, le_trans, ℤ, pos, negsuc, unsigned_abs, None}
use Rattle.std.proofs.Math.Nat.{pow-zero, pow-suc, one-le-pow, pow-le-pow_right, mul-le-mul, mul-le-mul_left, mul-le-mul_right}
use Rattle.tcl_ring.specs.Reduction.{reduced_by}
use Rattle.tcl_poly.specs.Monomial.{exponent}
use Rattle.tcl_poly.specs.Polynomial.{Term, Polynomial, IsPolynomial, sum_of, product_of, scaled, norm_of, power_of, raised_by}
use Rattle.tcl_poly.proofs.Norms.{norm_sum, norm_product, norm_scaled}
use Rattle.tcl_reduce.specs.Parts.{without, part, top, coefficients}
use Rattle.tcl_reduce.specs.Substitution.{quotient_by, substituted, cofactor_by, bound_of}
use Rattle.tcl_reduce.specs.Reduction.{Definition, equation_of}
use Rattle.tcl_reduce.proofs.Gathering.{last_or_before}

abbrev whole : ℤ → ℤ
whole = reduced_by None

-- the factor by which a power grows at most
abbrev pub growth : Polynomial → ℕ
growth d = max 1 (norm_of d)

part_norm_at : (b : Bool) (n : ℕ) (t : Term) (u k : ℕ) (p : Polynomial) → norm_of (part u k p) ≤ n → norm_of (if b then (without u t.0, t.1) ∷ part u k p else part u k p) ≤ unsigned_abs t.1 + n
part_norm_at true n t u k p h = omega (arith, h)
part_norm_at false n t u k p h = omega (arith, h)

pub part_norm : (u k : ℕ) (p : Polynomial) → norm_of (part u k p) ≤ norm_of p
part_norm u k [] = omega arith
part_norm u k (t ∷ p) = part_norm_at (exponent t.0 u == k) (norm_of p) t u k p (part_norm u k p)

pub unknown_norm : (u k : ℕ) → norm_of (power_of whole u k) ≡ 1
unknown_norm u zero = refl
unknown_norm u (suc k) = refl

pub equation_norm : (x : Definition) → norm_of (equation_of whole x) ≤ 1 + norm_of x.2
equation_norm x =
    omega (arith, norm_sum (power_of whole x.1 1) (scaled whole ([], negsuc 0) x.2), unknown_norm x.1 1, norm_scaled ([], negsuc 0) x.2)

-- ---- powers and quotients

pub power_norm : (d : Polynomial) (k : ℕ) → norm_of (raised_by whole d k) ≤ growth d ^ k
power_norm d zero = omega (arith, pow-zero (growth d))
power_norm d (suc k) =
    let n = norm_of (raised_by whole d k) in
    let grown : n * norm_of d ≤ growth d ^ k * growth d = mul-le-mul (power_norm d k) (omega arith) in
    omega (arith, norm_product (raised_by whole d k) d, grown, pow-suc (growth d) k)

pub quotient_norm : (u : ℕ) (d : Polynomial) (k : ℕ) → norm_of (quotient_by whole u d (suc k)) ≤ suc k * growth d ^ k
quotient_norm u d zero = omega (arith, norm_sum [] (power_of whole u 0), unknown_norm u 0, pow-zero (growth d))
quotient_norm u d (suc k) =
    let q = quotient_by whole u d (suc k) in
    let g = growth d in
    let grown : norm_of q * norm_of d ≤ (suc k * g ^ k) * g = mul-le-mul (quotient_norm u d k) (omega arith) in
    omega (arith, norm_sum (product_of whole q d) (power_of whole u (suc k)), unknown_norm u (suc k), norm_product q d, grown, one-le-pow (suc k) g (omega arith), ap (λ x. suc k * x) (pow-suc g k), pow-suc g k)

-- ---- rows

-- what the k-th power adds to the bound is at least the norm of its row, and of its row of the cofactor times the equation
pub row_bound : (a n g k : ℕ) → g ≤ 1 + n → a * g ^ suc k ≤ suc k * a * g ^ k * (1 + n)
row_bound a n g k h =
    let step : a * (g ^ k * g) ≤ a * (g ^ k * (1 + n)) = mul-le-mul_left a (mul-le-mul_left (g ^ k) h) in
    let more : a * (g ^ k * (1 + n)) ≤ suc k * (a * (g ^ k * (1 + n))) = omega arith in
    omega (arith, step, more, ap (λ x. a * x) (pow-suc g k))

pub substituted_row : (u : ℕ) (d f : Polynomial) (k : ℕ) → norm_of (product_of whole (part u k f) (raised_by whole d k)) ≤ norm_of (part u k f) * growth d ^ k
substituted_row u d f k =
    le_trans (norm_product (part u k f) (raised_by whole d k)) (mul-le-mul_left (norm_of (part u k f)) (power_norm d k))

pub substituted_norm : (u : ℕ) (d f : Polynomial) (k : ℕ) → norm_of (substituted whole d (coefficients u f) (suc k)) ≤ norm_of (part u 0 f) + bound_of d (coefficients u f) k
substituted_norm u d f zero =
    omega (arith, norm_sum [] (product_of whole (part u 0 f) (raised_by whole d 0)), substituted_row u d f 0, ap (λ x. norm_of (part u 0 f) * x) (pow-zero (growth d)))
substituted_norm u d f (suc k) =
    let a = part u (suc k) f in
    omega (arith, norm_sum (substituted whole d (coefficients u f) (suc k)) (product_of whole a (raised_by whole d (suc k))), substituted_norm u d f k, substituted_row u d f (suc k), row_bound (norm_of a) (norm_of d) (growth d) k (omega arith))

pub cofactor_row : (u : ℕ) (d f : Polynomial) (k : ℕ) → norm_of (product_of whole (part u (suc k) f) (quotient_by whole u d (suc k))) * (1 + norm_of d) ≤ suc k * norm_of (part u (suc k) f) * growth d ^ k * (1 + norm_of d)
cofactor_row u d f k =
    let a = part u (suc k) f in let q = quotient_by whole u d (suc k) in
    let row : norm_of (product_of whole a q) ≤ norm_of a * (suc k * growth d ^ k) = le_trans (norm_product a q) (mul-le-mul_left (norm_of a) (quotient_norm u d k)) in
    omega (arith, mul-le-mul_right (1 + norm_of d) row)

pub cofactor_norm : (u : ℕ) (d f : Polynomial) (k : ℕ) → norm_of (cofactor_by whole u d (coefficients u f) (suc k)) * (1 + norm_of d) ≤ bound_of d (coefficients u f) k
cofactor_norm u d f zero =
    let none : norm_of (product_of whole (part u 0 f) []) ≤ 0 = omega (arith, norm_product (part u 0 f) []) in
    let sum : norm_of (cofactor_by whole u d (coefficients u f) 1) ≤ 0 = omega (arith, norm_sum [] (product_of whole (part u 0 f) []), none) in
    omega (arith, mul-le-mul_right (1 + norm_of d) sum)
cofactor_norm u d f (suc k) =
    let c = cofactor_by whole u d (coefficients u f) (suc k) in
    let row = product_of whole (part u (suc k) f) (quotient_by whole u d (suc k)) in
    let sum : norm_of (sum_of whole c row) * (1 + norm_of d) ≤ (norm_of c + norm_of row) * (1 + norm_of d) = mul-le-mul_right (1 + norm_of d) (norm_sum c row) in
    omega (arith, sum, cofactor_norm u d f k, cofactor_row u d f k)

-- ---- the greatest power

pub bound_rises : (u : ℕ) (d f : Polynomial) (j k : ℕ) → j ≤ k → bound_of d (coefficients u f) j ≤ bound_of d (coefficients u f) k
bound_rises u d f j zero h = omega (arith, h, ap (bound_of d (coefficients u f)) (none j h))
  where
    none : (j : ℕ) → j ≤ 0 → j ≡ 0
    none j h = omega (arith, h)
bound_rises u d f j (suc k) h = elim (last_or_before j (suc k) (omega (arith, h))) [
  | inl s ↦ omega (arith, ap (bound_of d (coefficients u f)) s)
  | inr l ↦ omega (arith, bound_rises u d f j k (omega (arith, l)))
]

positive_at : (c : ℤ) → (c ≡ pos 0 → ⊥) → 0 < unsigned_abs c
positive_at (pos zero) n = absurd (n refl)
positive_at (pos (suc k)) n = omega arith
positive_at (negsuc k) n = omega arith

top_at : (r : ℤ → ℤ) (b : Bool) (u k : ℕ) (t : Term) (p : Polynomial) → (exponent t.0 u == k) ≡ b → (t.1 ≡ pos 0 → ⊥) → (top u p ≡ k → 0 < norm_of (part u k p)) → max (exponent t.0 u) (top u p) ≡ k → 0 < norm_of (if b then (without u t.0, t.1) ∷ part u k p else part u k p)
top_at r true u k t p e n more h = omega (arith, positive_at t.1 n)
top_at r false u k t p e n more h = more (other (exponent t.0 u) (top u p) k (false-eqb (exponent t.0 u) k (sym e)) h)
  where
    other : (a b k : ℕ) → (a ≡ k → ⊥) → max a b ≡ k → b ≡ k
    other a b k n h = grind arith

-- the part of the greatest power is not empty
pub top_occurs : (r : ℤ → ℤ) (u k : ℕ) (f : Polynomial) → IsPolynomial r f → 0 < k → top u f ≡ k → 0 < norm_of (part u k f)
top_occurs r u k [] h p e = absurd (omega (arith, p, e))
top_occurs r u k (t ∷ f) h p e = top_at r (exponent t.0 u == k) u k t f refl h.1 (top_occurs r u k f h.4 p) e

-- the greatest power alone adds that much
pub top_bound : (u : ℕ) (d f : Polynomial) (k : ℕ) → 0 < norm_of (part u (suc k) f) → suc k * (growth d ^ k * (1 + norm_of d)) ≤ bound_of d (coefficients u f) (suc k)
top_bound u d f k h =
    let w = suc k * (growth d ^ k * (1 + norm_of d)) in
    let a = norm_of (part u (suc k) f) in
    let more : 1 * w ≤ a * w = mul-le-mul_right w h in
    omega (arith, more)

-- powers up to the greatest one
pub power_bound : (u : ℕ) (d f : Polynomial) (j k : ℕ) → 0 < norm_of (part u (suc k) f) → j ≤ suc k → growth d ^ j ≤ bound_of d (coefficients u f) (suc k)
power_bound u d f j k h l =
    let g = growth d in
    let rises : g ^ j ≤ g ^ suc k = pow-le-pow_right (omega arith) l in
    let step : g ^ k * g ≤ g ^ k * (1 + norm_of d) = mul-le-mul_left (g ^ k) (omega arith) in
    let more : g ^ k * (1 + norm_of d) ≤ suc k * (g ^ k * (1 + norm_of d)) = omega arith in
    omega (arith, rises, pow-suc g k, step, more, top_bound u d f k h)

-- quotients up to that of the greatest power
pub quotient_bound : (u : ℕ) (d f : Polynomial) (j k : ℕ) → 0 < norm_of (part u (suc k) f) → j ≤ k → suc j * growth d ^ j ≤ bound_of d (coefficients u f) (suc k)
quotient_bound u d f j k h l =
    let g = growth d in
    let rises : suc j * g ^ j ≤ suc k * g ^ k = mul-le-mul (omega (arith, l)) (pow-le-pow_right (omega arith) l) in
    let more : suc k * g ^ k ≤ suc k * (g ^ k * (1 + norm_of d)) = omega arith in
    omega (arith, rises, more, top_bound u d f k h)
