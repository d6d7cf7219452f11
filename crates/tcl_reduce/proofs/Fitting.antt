-- Where a substitution is neither wide nor large, no product or sum on the way is too great.
use Rattle.std.proofs.Common.{◌≡◌, ℕ, zero, suc, max, ◌+◌, ◌*◌, ◌^◌, ◌<◌, ◌≤◌, refl, ap, arith, false, leb, ℤ, Option, Some, None}
use Rattle.std.proofs.Math.Nat.{pow-zero, pow-suc, one-le-pow, mul-le-mul, mul-le-mul_left, mul-le-mul_right}
use Rattle.tcl_ring.specs.Reduction.{reduced_by, is_wide}
use Rattle.tcl_poly.specs.Polynomial.{Polynomial, IsPolynomial, product_of, power_of, norm_of, degree_of, raised_by}
use Rattle.tcl_poly.proofs.Norms.{narrower, norm_product}
use Rattle.tcl_poly.proofs.Degrees.{within_degree}
use Rattle.tcl_reduce.specs.Parts.{part, top, coefficients}
use Rattle.tcl_reduce.specs.Substitution.{quotient_by, substituted, cofactor_by, bound_of, degree_by}
use Rattle.tcl_reduce.specs.Fits.{RowFits, StepFits}
use Rattle.tcl_reduce.specs.Step.{IsCovered}
use Rattle.tcl_reduce.proofs.PartLemmas.{part_is}
use Rattle.tcl_reduce.proofs.NormBounds.{growth, part_norm, unknown_norm, power_norm, quotient_norm, row_bound, substituted_row, substituted_norm, cofactor_norm, bound_rises, top_occurs, power_bound, quotient_bound}
use Rattle.tcl_reduce.proofs.DegreeBounds.{depth, power_within, quotient_within, row_depth}
use Rattle.tcl_reduce.proofs.Reducing.{below_end}

abbrev whole : ℤ → ℤ
whole = reduced_by None

-- ---- norms, over the integers

row_sum : (u : ℕ) (d f : Polynomial) (j : ℕ) → norm_of (substituted whole d (coefficients u f) j) + norm_of (part u j f) * growth d ^ j ≤ norm_of (part u 0 f) + bound_of d (coefficients u f) j
row_sum u d f zero = omega (arith, ap (λ x. norm_of (part u 0 f) * x) (pow-zero (growth d)))
row_sum u d f (suc i) =
    omega (arith, substituted_norm u d f i, row_bound (norm_of (part u (suc i) f)) (norm_of d) (growth d) i (omega arith))

cofactor_sum : (u : ℕ) (d f : Polynomial) (j : ℕ) → norm_of (cofactor_by whole u d (coefficients u f) j) + norm_of (part u j f) * norm_of (quotient_by whole u d j) ≤ bound_of d (coefficients u f) j
cofactor_sum u d f zero = omega arith
cofactor_sum u d f (suc i) =
    let a = norm_of (part u (suc i) f) in let q = norm_of (quotient_by whole u d (suc i)) in
    let row : a * q ≤ a * (suc i * growth d ^ i) = mul-le-mul_left a (quotient_norm u d i) in
    omega (arith, cofactor_norm u d f i, row)

quotient_grows : (u : ℕ) (d : Polynomial) (j : ℕ) → norm_of (quotient_by whole u d j) * norm_of d + 1 ≤ suc j * growth d ^ j
quotient_grows u d zero = omega (arith, pow-zero (growth d))
quotient_grows u d (suc i) =
    let g = growth d in
    let grown : norm_of (quotient_by whole u d (suc i)) * norm_of d ≤ (suc i * g ^ i) * g = mul-le-mul (quotient_norm u d i) (omega arith) in
    omega (arith, grown, one-le-pow (suc i) g (omega arith), ap (λ x. suc i * x) (pow-suc g i))

-- ---- degrees, over every ring

quotient_degree : (r : ℤ → ℤ) (u : ℕ) (d : Polynomial) (j : ℕ) → IsPolynomial r d → degree_of (quotient_by r u d j) + depth d ≤ max 1 j * depth d
quotient_degree r u d zero h = omega arith
quotient_degree r u d (suc i) h =
    let one : max 1 (suc i) ≡ suc i = omega arith in
    omega (arith, within_degree (i * depth d) (quotient_by r u d (suc i)) (quotient_within r u d i h), ap (λ x. x * depth d) one)

quotient_below : (r : ℤ → ℤ) (u : ℕ) (d : Polynomial) (j : ℕ) → IsPolynomial r d → degree_of (quotient_by r u d j) ≤ j * depth d
quotient_below r u d zero h = omega arith
quotient_below r u d (suc i) h = omega (arith, within_degree (i * depth d) (quotient_by r u d (suc i)) (quotient_within r u d i h))

power_degree : (r : ℤ → ℤ) (d : Polynomial) (j : ℕ) → IsPolynomial r d → degree_of (raised_by r d j) ≤ j * depth d
power_degree r d j h = within_degree (j * depth d) (raised_by r d j) (power_within r d j h)

-- ---- together

-- what is known where the definition is neither wide nor large
pub record IsAdmitted (m : Option ℕ) (u : ℕ) (d f : Polynomial) (spent k : ℕ) : Type 0 where
  pub definition : IsPolynomial (reduced_by m) d
  pub polynomial : IsPolynomial (reduced_by m) f
  pub degree : degree_of f ≤ 1024
  pub covered : IsCovered m (norm_of f) spent
  pub greatest : top u f ≡ suc k
  pub narrow : is_wide m (spent + bound_of d (coefficients u f) (suc k)) ≡ false
  pub shallow : leb 1025 (degree_by d (coefficients u f) (suc (suc k))) ≡ false

some_top : (m : Option ℕ) (u : ℕ) (d f : Polynomial) (spent k : ℕ) → IsAdmitted m u d f spent k → 0 < norm_of (part u (suc k) f)
some_top m u d f spent k a = top_occurs (reduced_by m) u (suc k) f a.polynomial (omega arith) a.greatest

pub depths : (m : Option ℕ) (u : ℕ) (d f : Polynomial) (spent k j : ℕ) → IsAdmitted m u d f spent k → j ≤ suc k → degree_of (part u j f) + j * depth d ≤ 1024
depths m u d f spent k j a l = row_depth (reduced_by m) u d f j k a.polynomial a.degree a.shallow (some_top m u d f spent k a) l

-- what is at most the norm of f and the bound is not too great
below_bound : (m : Option ℕ) (u : ℕ) (d f : Polynomial) (spent k j n : ℕ) → IsAdmitted m u d f spent k → j ≤ suc k → (m ≡ None → n ≤ norm_of f + bound_of d (coefficients u f) j) → is_wide m n ≡ false
below_bound None u d f spent k j n a l h =
    let fs = coefficients u f in
    narrower None (spent + bound_of d fs (suc k)) n a.narrow
    (omega (arith, h refl, bound_rises u d f j (suc k) l, below_end (norm_of f) spent (bound_of d fs (suc k)) (2 ^ 127) a.covered a.narrow))
below_bound (Some m) u d f spent k j n a l h = refl

-- a magnitude over the integers, whose ring is that of no modulus
at_whole : (m : Option ℕ) (n : (ℤ → ℤ) → ℕ) (limit : ℕ) → n whole ≤ limit → m ≡ None → n (reduced_by m) ≤ limit
at_whole m n limit h e = omega (arith, h, ap (λ o. n (reduced_by o)) e)

pub row_fits : (m : Option ℕ) (u : ℕ) (d f : Polynomial) (spent k j : ℕ) → IsAdmitted m u d f spent k → j ≤ suc k → RowFits m u d (coefficients u f) j
row_fits m u d f spent k j a l =
    let r = reduced_by m in let fs = coefficients u f in
    let p = part u j f in
    let deep = depths m u d f spent k j a l in
    let fit : (n : (ℤ → ℤ) → ℕ) → n whole ≤ norm_of f + bound_of d fs j → is_wide m (n r) ≡ false =
    λ n h. below_bound m u d f spent k j (n r) a l (at_whole m n (norm_of f + bound_of d fs j) h) in
    let row : norm_of p * norm_of (raised_by whole d j) ≤ norm_of p * growth d ^ j = mul-le-mul_left (norm_of p) (power_norm d j) in
    record {
      over = part_is r u j f a.polynomial;
      degrees = omega (arith, deep, power_degree r d j a.definition);
      product = fit (λ s. norm_of p * norm_of (raised_by s d j)) (omega (arith, row, row_sum u d f j, part_norm u 0 f));
      sum = fit (λ s. norm_of (substituted s d fs j) + norm_of (product_of s p (raised_by s d j))) (omega (arith, substituted_row u d f j, row_sum u d f j, part_norm u 0 f));
      cofactor_degrees = omega (arith, deep, quotient_below r u d j a.definition);
      cofactor_product = fit (λ s. norm_of p * norm_of (quotient_by s u d j)) (omega (arith, cofactor_sum u d f j));
      cofactor_sum = fit (λ s. norm_of (cofactor_by s u d fs j) + norm_of (product_of s p (quotient_by s u d j))) (omega (arith, norm_product p (quotient_by whole u d j), cofactor_sum u d f j));
    }

pub step_fits : (m : Option ℕ) (u : ℕ) (d f : Polynomial) (spent k j : ℕ) → IsAdmitted m u d f spent k → j < suc k → StepFits m u d j
step_fits m u d f spent k j a l =
    let r = reduced_by m in let fs = coefficients u f in
    let some = some_top m u d f spent k a in
    let deepest = depths m u d f spent k (suc k) a (omega arith) in
    let rises : suc j * depth d ≤ suc k * depth d = mul-le-mul_right (depth d) (omega (arith, l)) in
    let q = quotient_degree r u d j a.definition in
    let q_rises : max 1 j * depth d ≤ suc k * depth d = mul-le-mul_right (depth d) (omega (arith, l)) in
    let fit : (n : (ℤ → ℤ) → ℕ) → n whole ≤ bound_of d fs (suc k) → is_wide m (n r) ≡ false =
    λ n h. below_bound m u d f spent k (suc k) (n r) a (omega arith) (at_whole m n (norm_of f + bound_of d fs (suc k)) (omega (arith, h))) in
    let grown : norm_of (raised_by whole d j) * norm_of d ≤ growth d ^ j * growth d = mul-le-mul (power_norm d j) (omega arith) in
    record {
      power_degrees = omega (arith, deepest, rises, power_degree r d j a.definition);
      power_product = fit (λ s. norm_of (raised_by s d j) * norm_of d) (omega (arith, grown, pow-suc (growth d) j, power_bound u d f (suc j) k some (omega (arith, l))));
      quotient_degrees = omega (arith, deepest, q, q_rises);
      quotient_product = fit (λ s. norm_of (quotient_by s u d j) * norm_of d) (omega (arith, quotient_grows u d j, quotient_bound u d f j k some (omega (arith, l))));
      quotient_sum = fit (λ s. norm_of (product_of s (quotient_by s u d j) d) + norm_of (power_of s u j)) (omega (arith, norm_product (quotient_by whole u d j) d, unknown_norm u j, quotient_grows u d j, quotient_bound u d f j k some (omega (arith, l))));
    }
