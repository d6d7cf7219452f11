-- A step on the claim keeps it sound, or is wide: what is too great to be held is always wide.
use Rattle.std.proofs.Common.{◌≡◌, ℕ, ◌+◌, ◌≤◌, sym, ◌∙◌, ap, arith, true, false, List, [], length, ℤ, negsuc, ◌+ℤ◌, ◌*ℤ◌, neg_ℤ, Option, None, Some}
use Rattle.std.specs.List.{AllByRecursion}
use Rattle.tcl_ring.specs.Reduction.{IsReduction, reduced_by, is_wide}
use Rattle.tcl_ring.proofs.Reductions.{is_reduction}
use Rattle.tcl_poly.specs.Monomial.{Monomial}
use Rattle.tcl_poly.specs.Polynomial.{Polynomial, IsPolynomial, sum_of, scaled, weigh, norm_of, has_wide}
use Rattle.tcl_poly.specs.Combination.{combination_of, weight_of}
use Rattle.tcl_poly.proofs.Weights.{right_sum, weigh_sum, weigh_scaled}
use Rattle.tcl_poly.proofs.Canonical.{sum_is, scaled_is, same_alike}
use Rattle.tcl_poly.proofs.Norms.{norm_sum, norm_scaled}
use Rattle.tcl_poly.proofs.Combinations.{combination_norm}
use Rattle.tcl_reduce.specs.CofactorSum.{scaled_cofactors, is_deep, are_wide}
use Rattle.tcl_pivots.specs.CofactorLists.{any_wide}
use Rattle.tcl_reduce.specs.Row.{Pivot, quotient_at}
use Rattle.tcl_reduce.specs.Membership.{Target, target_less}
use Rattle.tcl_pivots.specs.RowState.{AreCounted, IsSound}
use Rattle.tcl_pivots.specs.TargetState.{IsSoundTarget}
use Rattle.tcl_pivots.proofs.Making.{heavy, combination_heavy, AreMade, sum_made, scaled_made}
use Rattle.tcl_pivots.proofs.Weighing.{made_combination}
use Rattle.tcl_pivots.proofs.Showing.{fit_made, made_fit, or_left, or_right, taken, aim_sum}
use Rattle.tcl_poly.proofs.Norms.{narrower}
use Rattle.tcl_pivots.proofs.Soundness.{wider, or_second, none_wide, wide_norm, clash, cofactors_wide, sum_counted, sum_ordered, scaled_ordered, fit_ordered, ordered_rise, sound_row}

-- the claim by weights
abbrev pub MakesClaim : (ℤ → ℤ) → List Polynomial → Polynomial → Target → Type 0
MakesClaim r es claim f = (φ : Monomial → ℤ) → r (weigh φ claim) ≡ r (weigh φ f.poly +ℤ heavy es φ f.cofactors)

pub target_sum : (m : Option ℕ) → IsReduction (reduced_by m) → (es : List Polynomial) (claim : Polynomial) (f : Target) → IsSoundTarget m es claim f → MakesClaim (reduced_by m) es claim f
target_sum m ring es claim f h φ =
    let r = reduced_by m in
    let q = combination_of r (λ n. n) es f.cofactors in
    ap (λ z. r (weigh φ z)) h.shown.kept
    ∙ weigh_sum r ring φ f.poly q
    ∙ right_sum r ring (weigh φ f.poly) (weigh φ q) (heavy es φ f.cofactors) (combination_heavy r ring es φ f.cofactors)

-- what is left is the claim less the combination
left_weight : (r : ℤ → ℤ) → IsReduction r → (es : List Polynomial) (claim : Polynomial) (f : Target) → MakesClaim r es claim f → (φ : Monomial → ℤ) → r (weigh φ f.poly) ≡ r (weigh φ (sum_of r claim (scaled r ([], negsuc 0) (combination_of r (λ n. n) es f.cofactors))))
left_weight r ring es claim f h φ =
    let q = combination_of r (λ n. n) es f.cofactors in
    let a = weigh φ f.poly in let b = heavy es φ f.cofactors in
    let minus = scaled r ([], negsuc 0) q in
    let other : r (negsuc 0 *ℤ b) ≡ r (weigh φ minus) =
    ring.products b (weigh φ q) (negsuc 0) (sym (combination_heavy r ring es φ f.cofactors)) ∙ sym (weigh_scaled r ring φ ([], negsuc 0) q) in
    ap r (sym (taken a b))
    ∙ ring.sums (a +ℤ b) (weigh φ claim) (negsuc 0 *ℤ b) (sym (h φ))
    ∙ right_sum r ring (weigh φ claim) (negsuc 0 *ℤ b) (weigh φ minus) other
    ∙ sym (weigh_sum r ring φ claim minus)

pub left_norm : (es : List Polynomial) (claim : Polynomial) (f : Target) → AllByRecursion (IsPolynomial (reduced_by None)) es → IsPolynomial (reduced_by None) claim → IsPolynomial (reduced_by None) f.poly → AreMade (reduced_by None) (length es) f.cofactors → MakesClaim (reduced_by None) es claim f → norm_of f.poly ≤ norm_of claim + weight_of (λ n. n) es f.cofactors
left_norm es claim f h i o made sum =
    let r = reduced_by None in let ring = is_reduction None tt in
    let q = combination_of r (λ n. n) es f.cofactors in
    let minus = scaled r ([], negsuc 0) q in
    let over = made_combination r ring es f.cofactors h made in
    let same = same_alike r ring f.poly (sum_of r claim minus) o (sum_is r ring claim minus i (scaled_is r ring ([], negsuc 0) q tt over)) (left_weight r ring es claim f sum) in
    omega (arith, ap (λ z. norm_of z) same, norm_sum claim minus, norm_scaled ([], negsuc 0) q, combination_norm (λ n. n) es f.cofactors)

pub left_wide : (m : Option ℕ) (es : List Polynomial) (claim : Polynomial) (f : Target) → AllByRecursion (IsPolynomial (reduced_by m)) es → IsPolynomial (reduced_by m) claim → IsPolynomial (reduced_by m) f.poly → AreMade (reduced_by m) (length es) f.cofactors → MakesClaim (reduced_by m) es claim f → has_wide m f.poly ≡ true → are_wide m es (norm_of claim) f.cofactors ≡ true
left_wide (Some k) es claim f h i o made sum w = absurd (clash (sym w ∙ none_wide k f.poly))
left_wide None es claim f h i o made sum w =
    let whole = norm_of claim + weight_of (λ n. n) es f.cofactors in
    or_second (is_deep es f.cofactors) (is_wide None whole) (wider None (norm_of f.poly) whole (wide_norm f.poly w) (left_norm es claim f h i o made sum))

-- ---- the step

target_over : (m : Option ℕ) → IsReduction (reduced_by m) → (f : Target) (p : Pivot) → IsPolynomial (reduced_by m) f.poly → IsPolynomial (reduced_by m) p.row.poly → IsPolynomial (reduced_by m) (target_less (reduced_by m) f p).poly
target_over m ring f p h i =
    let c = neg_ℤ (quotient_at (reduced_by m) f.poly p) in
    sum_is (reduced_by m) ring f.poly (scaled (reduced_by m) ([], c) p.row.poly) h (scaled_is (reduced_by m) ring ([], c) p.row.poly tt i)

target_made : (m : Option ℕ) → IsReduction (reduced_by m) → (es : List Polynomial) (claim : Polynomial) (f : Target) (p : Pivot) → IsSoundTarget m es claim f → IsSound m es p.row → AreMade (reduced_by m) (length es) (target_less (reduced_by m) f p).cofactors
target_made m ring es claim f p h j =
    let r = reduced_by m in let c = quotient_at r f.poly p in
    sum_made r ring (length es) f.cofactors (scaled_cofactors r ([], c) p.row.cofactors) (fit_made m es f.cofactors h.shown.fit)
    (scaled_made r ring (length es) ([], c) p.row.cofactors tt (fit_made m es p.row.cofactors j.shown.fit))

target_makes : (m : Option ℕ) → IsReduction (reduced_by m) → (es : List Polynomial) (claim : Polynomial) (f : Target) (p : Pivot) → IsSoundTarget m es claim f → IsSound m es p.row → MakesClaim (reduced_by m) es claim (target_less (reduced_by m) f p)
target_makes m ring es claim f p h j = aim_sum (reduced_by m) ring es claim f p (target_sum m ring es claim f h) (sound_row m ring es p.row j)

target_counted : (m : Option ℕ) (es : List Polynomial) (claim : Polynomial) (f : Target) (p : Pivot) → IsSoundTarget m es claim f → IsSound m es p.row → AreCounted m es (target_less (reduced_by m) f p).cofactors
target_counted m es claim f p h j =
    sum_counted m es (reduced_by m) ([], quotient_at (reduced_by m) f.poly p) f.cofactors p.row.cofactors h.counted j.counted

pub target_poly_wide : (m : Option ℕ) → IsReduction (reduced_by m) → (es : List Polynomial) (claim : Polynomial) (f : Target) (p : Pivot) → AllByRecursion (IsPolynomial (reduced_by m)) es → IsPolynomial (reduced_by m) claim → IsSoundTarget m es claim f → IsSound m es p.row → has_wide m (target_less (reduced_by m) f p).poly ≡ true → are_wide m es (norm_of claim) (target_less (reduced_by m) f p).cofactors ≡ true
target_poly_wide m ring es claim f p h i a j w =
    left_wide m es claim (target_less (reduced_by m) f p) h i (target_over m ring f p a.over j.over) (target_made m ring es claim f p a j) (target_makes m ring es claim f p a j) w

pub target_cofactors_wide : (m : Option ℕ) (es : List Polynomial) (norm : ℕ) (claim : Polynomial) (f : Target) (p : Pivot) → AllByRecursion (IsPolynomial (reduced_by m)) es → IsSoundTarget m es claim f → IsSound m es p.row → any_wide m (target_less (reduced_by m) f p).cofactors ≡ true → are_wide m es norm (target_less (reduced_by m) f p).cofactors ≡ true
target_cofactors_wide m es norm claim f p h a j w = cofactors_wide m es norm (target_less (reduced_by m) f p).cofactors h (target_counted m es claim f p a j) w

pub target_sound : (m : Option ℕ) → IsReduction (reduced_by m) → (es : List Polynomial) (norm : ℕ) (claim : Polynomial) (f : Target) (p : Pivot) → AllByRecursion (IsPolynomial (reduced_by m)) es → IsPolynomial (reduced_by m) claim → IsSoundTarget m es claim f → IsSound m es p.row → are_wide m es norm (target_less (reduced_by m) f p).cofactors ≡ false → IsSoundTarget m es claim (target_less (reduced_by m) f p)
target_sound m ring es norm claim f p h i a j w =
    let r = reduced_by m in let c = quotient_at r f.poly p in
    let after = target_less r f p in
    let q = combination_of r (λ n. n) es after.cofactors in
    let weight = weight_of (λ n. n) es after.cofactors in
    let made = target_made m ring es claim f p a j in
    let over = target_over m ring f p a.over j.over in
    let ordered = sum_ordered r ring 0 f.cofactors (scaled_cofactors r ([], c) p.row.cofactors) (fit_ordered m es 0 (length es) f.cofactors a.shown.fit a.shown.rise)
    (scaled_ordered r ring 0 c p.row.cofactors (fit_ordered m es 0 (length es) p.row.cofactors j.shown.fit j.shown.rise)) in
    record {
      over = over;
      shown = record {
        kept = same_alike r ring claim (sum_of r after.poly q) i (sum_is r ring after.poly q over (made_combination r ring es after.cofactors h made))
            (λ φ. target_makes m ring es claim f p a j φ
            ∙ right_sum r ring (weigh φ after.poly) (heavy es φ after.cofactors) (weigh φ q) (sym (combination_heavy r ring es φ after.cofactors))
            ∙ sym (weigh_sum r ring φ after.poly q));
        fit = made_fit m es after.cofactors made (or_left (is_deep es after.cofactors) (is_wide m (norm + weight)) w);
        rise = ordered_rise r 0 (length es) after.cofactors ordered made;
        narrow = narrower m (norm + weight) weight (or_right (is_deep es after.cofactors) (is_wide m (norm + weight)) w) (omega arith);
      };
      counted = target_counted m es claim f p a j;
    }
