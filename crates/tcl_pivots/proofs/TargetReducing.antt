-- What is left of a claim, reduced by one kept row after the other.
use Rattle.std.proofs.Common.{◌≡◌, ◌⊎◌, inl, inr, ℕ, ◌+◌, ◌<◌, ◌≤◌, ◌==◌, if◌then◌else◌, refl, sym, ◌∙◌, ap, subst, arith, Bool, true, false, List, ◌∷◌, length, drop, get_or, ◌*◌, ℤ, pos, ◌*ℤ◌, unsigned_abs, Option, Some, None}
use Rattle.std.specs.List.{AllByRecursion}
use Rattle.std.proofs.lemmas.Bool.{eqb-true}
use Rattle.std.proofs.lemmas.Int.{unsigned_abs-mul}
use Rattle.tcl_num.proofs.IntegerOrder.{unsigned_abs_zero}
use Rattle.tcl_ring.specs.Reduction.{IsModulus, reduced_by, is_wide}
use Rattle.tcl_ring.proofs.Reductions.{is_reduction}
use Rattle.tcl_poly.specs.Polynomial.{Polynomial, IsPolynomial, coefficient, norm_of}
use Rattle.tcl_poly.specs.Combination.{weight_of}
use Rattle.tcl_poly.proofs.Norms.{narrower}
use Rattle.tcl_reduce.specs.CofactorSum.{is_deep, are_wide}
use Rattle.tcl_reduce.specs.Row as rows
use Rattle.tcl_reduce.specs.Membership.{Target, target_less, noted, target_by, noted_rows, stage_of}
use Rattle.tcl_pivots.specs.declared.row.Pivot.{Pivot}
use Rattle.tcl_pivots.specs.declared.row.Target as code
use Rattle.tcl_pivots.specs.RowState.{pivot_shown}
use Rattle.tcl_pivots.specs.Kept.{lead, IsPivot}
use Rattle.tcl_pivots.specs.declared.rows.Note.{Note}
use Rattle.tcl_pivots.specs.Held.{Held, rows_shown, pivots_shown, pivots_at, AreSorted, AreHeld}
use Rattle.tcl_pivots.specs.TargetState.{target_shown, IsSoundTarget}
use Rattle.tcl_pivots.specs.Aim.{IsAimed, IsSettled}
use Rattle.tcl_pivots.proofs.Quotients.{coefficient_within, unit_magnitude}
use Rattle.tcl_pivots.proofs.Showing.{fit_made, or_right}
use Rattle.tcl_pivots.proofs.Soundness.{clash, wider, or_second}
use Rattle.tcl_pivots.proofs.TargetSteps.{target_sum, left_norm}
use Rattle.tcl_pivots.proofs.HeldRows.{rows_from, rows_ended, rows_whole}

-- ---- one row

first_taken : {X : Type 0} (b : Bool) (x y : X) → b ≡ true → (if b then x else y) ≡ x
first_taken b x y e = ap (λ c. if c then x else y) e

second_taken : {X : Type 0} (b : Bool) (x y : X) → b ≡ false → (if b then x else y) ≡ y
second_taken b x y e = ap (λ c. if c then x else y) e

some_magnitude : (c : ℤ) → (c ≡ pos 0 → ⊥) → (unsigned_abs c == 0) ≡ false
some_magnitude c n = by (unsigned_abs c == 0) refl where
  by : (b : Bool) → (unsigned_abs c == 0) ≡ b → (unsigned_abs c == 0) ≡ false
  by true e = absurd (n (unsigned_abs_zero c (eqb-true (unsigned_abs c) 0 e)))
  by false e = e

pub target_passed : (m : Option ℕ) (es : List Polynomial) (norm : ℕ) (p : rows.Pivot) (ps : List rows.Pivot) (f : Target) → coefficient f.poly (lead p) ≡ pos 0 → target_by m es norm (p ∷ ps) f ≡ target_by m es norm ps f
target_passed m es norm p ps f e =
    let after = target_less (reduced_by m) f p in
    first_taken (unsigned_abs (coefficient f.poly (lead p)) == 0) (target_by m es norm ps f)
    (if are_wide m es norm after.cofactors then target_by m es norm ps (noted f) else target_by m es norm ps after)
    (ap (λ c. unsigned_abs c == 0) e)

pub target_wide : (m : Option ℕ) (es : List Polynomial) (norm : ℕ) (p : rows.Pivot) (ps : List rows.Pivot) (f : Target) → (coefficient f.poly (lead p) ≡ pos 0 → ⊥) → are_wide m es norm (target_less (reduced_by m) f p).cofactors ≡ true → target_by m es norm (p ∷ ps) f ≡ target_by m es norm ps (noted f)
target_wide m es norm p ps f n w =
    let after = target_less (reduced_by m) f p in
    second_taken (unsigned_abs (coefficient f.poly (lead p)) == 0) (target_by m es norm ps f)
    (if are_wide m es norm after.cofactors then target_by m es norm ps (noted f) else target_by m es norm ps after) (some_magnitude (coefficient f.poly (lead p)) n)
    ∙ first_taken (are_wide m es norm after.cofactors) (target_by m es norm ps (noted f)) (target_by m es norm ps after) w

target_made : (m : Option ℕ) (es : List Polynomial) (norm : ℕ) (p : rows.Pivot) (ps : List rows.Pivot) (f : Target) → (coefficient f.poly (lead p) ≡ pos 0 → ⊥) → are_wide m es norm (target_less (reduced_by m) f p).cofactors ≡ false → target_by m es norm (p ∷ ps) f ≡ target_by m es norm ps (target_less (reduced_by m) f p)
target_made m es norm p ps f n w =
    let after = target_less (reduced_by m) f p in
    second_taken (unsigned_abs (coefficient f.poly (lead p)) == 0) (target_by m es norm ps f)
    (if are_wide m es norm after.cofactors then target_by m es norm ps (noted f) else target_by m es norm ps after) (some_magnitude (coefficient f.poly (lead p)) n)
    ∙ second_taken (are_wide m es norm after.cofactors) (target_by m es norm ps (noted f)) (target_by m es norm ps after) w

-- the step that was made, whatever was noted before
pub target_next : {R E : Type 0} (m : Option ℕ) (es : List Polynomial) (norm : ℕ) (value : E → ℤ) (p : rows.Pivot) (ps : List rows.Pivot) (f g : code.Target R E) (note : Bool) → (coefficient (target_shown value false f).poly (lead p) ≡ pos 0 → ⊥) → are_wide m es norm (target_less (reduced_by m) (target_shown value false f) p).cofactors ≡ false → target_shown value false g ≡ target_less (reduced_by m) (target_shown value false f) p → target_by m es norm (p ∷ ps) (target_shown value note f) ≡ target_by m es norm ps (target_shown value note g)
target_next m es norm value p ps f g note n w e =
    target_made m es norm p ps (target_shown value note f) n w
    ∙ (let back = sym e in λ i. target_by m es norm ps (record { poly = (back i).poly; cofactors = (back i).cofactors; noted = note }))

-- where the claim itself is too great, every step is wide
pub claim_wide : (m : Option ℕ) (es : List Polynomial) (norm : ℕ) (cs : List (ℕ × Polynomial)) → is_wide m norm ≡ true → are_wide m es norm cs ≡ true
claim_wide m es norm cs w =
    let whole = norm + weight_of (λ n. n) es cs in
    or_second (is_deep es cs) (is_wide m whole) (wider m norm whole w (omega arith))

-- where it is not, the quotient of a step fits
pub aim_narrow : (m : Option ℕ) → IsModulus m → (es : List Polynomial) (claim : Polynomial) (f : Target) (p : rows.Pivot) → AllByRecursion (IsPolynomial (reduced_by m)) es → IsPolynomial (reduced_by m) claim → IsAimed m es claim f → IsPivot (reduced_by m) p → is_wide m (norm_of claim) ≡ false → is_wide m (unsigned_abs (coefficient f.poly (lead p) *ℤ p.inverse)) ≡ false
aim_narrow (Some k) modulus es claim f p h i a j w = refl
aim_narrow None modulus es claim f p h i a j w = by a.fits where
  by : (is_wide None (norm_of claim) ≡ true) ⊎ (is_wide None (norm_of claim + weight_of (λ n. n) es f.cofactors) ≡ false) → is_wide None (unsigned_abs (coefficient f.poly (lead p) *ℤ p.inverse)) ≡ false
  by (inl e) = absurd (clash (sym e ∙ w))
  by (inr e) =
      let c = coefficient f.poly (lead p) in
      let one = unit_magnitude p.inverse (coefficient p.row.poly (lead p)) j.unit in
      let product : unsigned_abs (c *ℤ p.inverse) ≡ unsigned_abs c = unsigned_abs-mul c p.inverse ∙ ap (λ n. unsigned_abs c * n) one ∙ omega arith in
      let made = fit_made None es f.cofactors a.sound.shown.fit in
      let sum = target_sum None (is_reduction None tt) es claim f a.sound in
      narrower None (norm_of claim + weight_of (λ n. n) es f.cofactors) (unsigned_abs (c *ℤ p.inverse)) e
      (omega (arith, product, coefficient_within f.poly (lead p), left_norm es claim f h i a.sound.over made sum))

pub aimed_next : (m : Option ℕ) (es : List Polynomial) (claim : Polynomial) (g after : Target) → IsSoundTarget m es claim g → g ≡ after → are_wide m es (norm_of claim) after.cofactors ≡ false → IsAimed m es claim g
aimed_next m es claim g after sound e w =
    let narrow = or_right (is_deep es g.cofactors) (is_wide m (norm_of claim + weight_of (λ n. n) es g.cofactors)) (ap (λ z. are_wide m es (norm_of claim) z.cofactors) e ∙ w) in
    record { sound = sound; fits = inr narrow }

-- ---- all rows

pub target_start : (m : Option ℕ) (es : List Polynomial) (norm : ℕ) (ps : List rows.Pivot) (places : List ℕ) (f : Target) → AreSorted ps places → target_by m es norm (pivots_at ps (drop 0 places)) f ≡ target_by m es norm (rows.by_leading ps) f
target_start m es norm ps places f h = ap (λ z. target_by m es norm z f) (rows_whole ps places h)

pub target_turn : {R E : Type 0} (m : Option ℕ) (es : List Polynomial) (norm : ℕ) (value : E → ℤ) (ps : List (Pivot R E)) (places : List ℕ) (i k : ℕ) (p : Pivot R E) (f after whole : Target) → k ≡ get_or places i k → i < length places → p ≡ get_or ps k p → k < length ps → target_by m es norm (pivot_shown value p ∷ pivots_at (pivots_shown value ps) (drop (i + 1) places)) f ≡ target_by m es norm (pivots_at (pivots_shown value ps) (drop (i + 1) places)) after → target_by m es norm (pivots_at (pivots_shown value ps) (drop i places)) f ≡ whole → target_by m es norm (pivots_at (pivots_shown value ps) (drop (i + 1) places)) after ≡ whole
target_turn m es norm value ps places i k p f after whole e l g b further h =
    sym further ∙ ap (λ qs. target_by m es norm qs f) (sym (rows_from value ps places i k p e l g b)) ∙ h

pub target_end : (m : Option ℕ) (es : List Polynomial) (norm : ℕ) (ps : List rows.Pivot) (places : List ℕ) (i : ℕ) (f whole : Target) → length places ≤ i → target_by m es norm (pivots_at ps (drop i places)) f ≡ whole → f ≡ whole
target_end m es norm ps places i f whole l h = sym (ap (λ qs. target_by m es norm qs f) (rows_ended ps places i l)) ∙ h

-- ---- the stage then

pub settled_by : {R E : Type 0} (m : Option ℕ) (es : List Polynomial) (norm place : ℕ) (value : E → ℤ) (h after : Held R E) (f left : code.Target R E) (b : Bool) → target_shown value b left ≡ target_by m es norm (rows.by_leading (rows_shown value h).kept) (target_shown value false f) → rows_shown value after ≡ noted_rows b place (rows_shown value h) → IsSettled value after left (stage_of m es norm place (rows_shown value h) (target_shown value false f))
settled_by m es norm place value h after f left b t e =
    let n = ap (λ z. z.noted) (sym t) in
    (e ∙ ap (λ z. noted_rows z place (rows_shown value h)) (sym n), ap (λ z. target_shown value z left) n ∙ t)

pub held_noted : {R E : Type 0} (m : Option ℕ) (es : List Polynomial) (value : E → ℤ) (h after : Held R E) (notes : List Note) → AreHeld m es value h → after ≡ record { kept = h.kept; order = h.order; notes = notes } → AreHeld m es value after
held_noted m es value h after notes held e =
    let P : Held _ _ → Type 0 = λ z. AreHeld m es value z in
    subst P (sym e) (record { sound = held.sound; sorted = held.sorted })
