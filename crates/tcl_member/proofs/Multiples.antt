-- The product of a sound row with a monomial is sound, unless its degrees are too great.
use Rattle.std.proofs.Common.{◌≡◌, ℕ, zero, suc, ◌+◌, ◌≤◌, refl, ◌∙◌, ap, subst, arith, true, false, ◌||◌, List, [], ◌∷◌, length, ℤ, pos, negsuc, ◌*ℤ◌, Option, Some, None}
use Rattle.std.specs.Prelude.{nat_le}
use Rattle.std.specs.List.{AllByRecursion}
use Rattle.tcl_num.proofs.IntegerRing.{int_one_mul}
use Rattle.tcl_ring.specs.Reduction.{IsReduction, reduced_by, is_wide}
use Rattle.tcl_poly.specs.Monomial.{Monomial, IsMonomial, degree, times}
use Rattle.tcl_poly.specs.Polynomial.{Term, Polynomial, IsPolynomial, front, scaled, degree_of}
use Rattle.tcl_poly.specs.Combination.{equation_at, weight_of, AreCofactors}
use Rattle.tcl_poly.proofs.MonomialLaws.{times_degree}
use Rattle.tcl_poly.proofs.Weights.{reduced_weight}
use Rattle.tcl_poly.proofs.Canonical.{scaled_is}
use Rattle.tcl_poly.proofs.Norms.{narrower}
use Rattle.tcl_poly.proofs.TermLists.{terms_itself}
use Rattle.tcl_reduce.specs.CofactorSum.{front_cofactor, scaled_cofactors, is_deep, are_wide}
use Rattle.tcl_reduce.specs.Row.{Row}
use Rattle.tcl_reduce.specs.Multiple.{multiplied}
use Rattle.tcl_pivots.specs.RowState.{AreCounted, IsSound}
use Rattle.tcl_pivots.specs.CofactorLists.{AreOrdered}
use Rattle.tcl_pivots.proofs.Making.{multiplied_row}
use Rattle.tcl_pivots.proofs.Soundness.{row_sound, sound_row, fit_ordered, scaled_numbers}
use Rattle.tcl_member.specs.Deep.{is_deep_product, are_deep_products}
use Rattle.tcl_member.proofs.Booleans.{neither, first_is}
use Rattle.tcl_member.proofs.EquationRows.{scaled_weight}

-- ---- a product with the coefficient 1 keeps each coefficient

one_keeps : (r : ℤ → ℤ) → IsReduction r → (c : ℤ) → r c ≡ c → r (r (pos 1) *ℤ c) ≡ c
one_keeps r ring c h = reduced_weight r ring (pos 1) c ∙ ap r (int_one_mul c) ∙ h

front_some : (m : Monomial) (c : ℤ) (p : Polynomial) → (c ≡ pos 0 → ⊥) → front m c p ≡ (m, c) ∷ p
front_some m (pos zero) p n = absurd (n refl)
front_some m (pos (suc k)) p n = refl
front_some m (negsuc k) p n = refl

pub scaled_first : (r : ℤ → ℤ) → IsReduction r → (n : Monomial) (u : Term) (p : Polynomial) → IsPolynomial r (u ∷ p) → scaled r (n, r (pos 1)) (u ∷ p) ≡ (times n u.0, u.1) ∷ scaled r (n, r (pos 1)) p
scaled_first r ring n u p h =
    ap (λ c. front (times n u.0) c (scaled r (n, r (pos 1)) p)) (one_keeps r ring u.1 h.2)
    ∙ front_some (times n u.0) u.1 (scaled r (n, r (pos 1)) p) h.1

-- ---- degrees

cofactor_deep : (r : ℤ → ℤ) → IsReduction r → (es : List Polynomial) (n : Monomial) (k : ℕ) (p : Polynomial) (cs : List (ℕ × Polynomial)) → IsPolynomial r p → is_deep es (front_cofactor k (scaled r (n, r (pos 1)) p) cs) ≡ (is_deep_product (degree n) p (equation_at es k) || is_deep es cs)
cofactor_deep r ring es n k [] cs h = refl
cofactor_deep r ring es n k (u ∷ p) cs h =
    ap (λ q. is_deep es (front_cofactor k q cs)) (scaled_first r ring n u p h)
    ∙ ap (λ d. nat_le 1025 (d + degree_of (equation_at es k)) || is_deep es cs) (times_degree n u.0)

pub scaled_deep : (m : Option ℕ) → IsReduction (reduced_by m) → (es : List Polynomial) (n : Monomial) (cs : List (ℕ × Polynomial)) → AreCofactors m (λ n. n) es cs → is_deep es (scaled_cofactors (reduced_by m) (n, reduced_by m (pos 1)) cs) ≡ are_deep_products es (degree n) cs
scaled_deep m ring es n [] h = refl
scaled_deep m ring es n (c ∷ cs) h =
    let r = reduced_by m in
    let over : IsPolynomial r c.1 = subst (IsPolynomial r) (terms_itself c.1) h.1 in
    cofactor_deep r ring es n c.0 c.1 (scaled_cofactors r (n, r (pos 1)) cs) over
    ∙ ap (λ b. is_deep_product (degree n) c.1 (equation_at es c.0) || b) (scaled_deep m ring es n cs h.3)

-- ---- norms

scaled_narrow : (m : Option ℕ) (es : List Polynomial) (n : Monomial) (cs : List (ℕ × Polynomial)) → is_wide m (weight_of (λ n. n) es cs) ≡ false → is_wide m (0 + weight_of (λ n. n) es (scaled_cofactors (reduced_by m) (n, reduced_by m (pos 1)) cs)) ≡ false
scaled_narrow (Some m) es n cs h = refl
scaled_narrow None es n cs h =
    narrower None (weight_of (λ n. n) es cs) (0 + weight_of (λ n. n) es (scaled_cofactors (reduced_by None) (n, reduced_by None (pos 1)) cs)) h
    (omega (arith, scaled_weight es (n, reduced_by None (pos 1)) cs (omega arith)))

-- ---- numbers

lower_from : (r : ℤ → ℤ) (least most : ℕ) (cs : List (ℕ × Polynomial)) → least ≤ most → AreOrdered r most cs → AreOrdered r least cs
lower_from r least most [] h i = tt
lower_from r least most (c ∷ cs) h i = (omega (arith, h, i.0), i.1, i.2)

front_from : (r : ℤ → ℤ) (least k : ℕ) (p : Polynomial) (cs : List (ℕ × Polynomial)) → least ≤ k → IsPolynomial r p → AreOrdered r (suc k) cs → AreOrdered r least (front_cofactor k p cs)
front_from r least k [] cs h i j = lower_from r least (suc k) cs (omega (arith, h)) j
front_from r least k (t ∷ p) cs h i j = (h, i, j)

scaled_from : (r : ℤ → ℤ) → IsReduction r → (least : ℕ) (t : Term) (cs : List (ℕ × Polynomial)) → IsMonomial t.0 → AreOrdered r least cs → AreOrdered r least (scaled_cofactors r t cs)
scaled_from r ring least t [] i h = tt
scaled_from r ring least t (c ∷ cs) i h =
    front_from r least c.0 (scaled r t c.1) (scaled_cofactors r t cs) h.0 (scaled_is r ring t c.1 i h.1) (scaled_from r ring (suc c.0) t cs i h.2)

scaled_counted : (m : Option ℕ) (es : List Polynomial) (r : ℤ → ℤ) (t : Term) (cs : List (ℕ × Polynomial)) → AreCounted m es cs → AreCounted m es (scaled_cofactors r t cs)
scaled_counted (Some m) es r t cs h = tt
scaled_counted None es r t cs h = scaled_numbers (λ k. equation_at es k ≡ [] → ⊥) r t cs h

-- ---- the product

pub product_deep : (m : Option ℕ) → IsReduction (reduced_by m) → (es : List Polynomial) (n : Monomial) (a : Row) → IsSound m es a → are_deep_products es (degree n) a.cofactors ≡ true → are_wide m es 0 (multiplied (reduced_by m) n a).cofactors ≡ true
product_deep m ring es n a h d =
    let cs = (multiplied (reduced_by m) n a).cofactors in
    first_is (is_deep es cs) (is_wide m (0 + weight_of (λ n. n) es cs)) (scaled_deep m ring es n a.cofactors h.shown.fit ∙ d)

pub product_narrow : (m : Option ℕ) → IsReduction (reduced_by m) → (es : List Polynomial) (n : Monomial) (a : Row) → IsSound m es a → are_deep_products es (degree n) a.cofactors ≡ false → are_wide m es 0 (multiplied (reduced_by m) n a).cofactors ≡ false
product_narrow m ring es n a h d =
    let cs = (multiplied (reduced_by m) n a).cofactors in
    neither (is_deep es cs) (is_wide m (0 + weight_of (λ n. n) es cs)) (scaled_deep m ring es n a.cofactors h.shown.fit ∙ d) (scaled_narrow m es n a.cofactors h.shown.narrow)

pub product_sound : (m : Option ℕ) → IsReduction (reduced_by m) → (es : List Polynomial) (n : Monomial) (a : Row) → AllByRecursion (IsPolynomial (reduced_by m)) es → IsMonomial n → IsSound m es a → are_deep_products es (degree n) a.cofactors ≡ false → IsSound m es (multiplied (reduced_by m) n a)
product_sound m ring es n a over i h d =
    let r = reduced_by m in
    row_sound m ring es 0 (multiplied r n a) over (scaled_is r ring (n, r (pos 1)) a.poly i h.over)
    (multiplied_row r ring es n a over i (sound_row m ring es a h))
    (scaled_from r ring 0 (n, r (pos 1)) a.cofactors i (fit_ordered m es 0 (length es) a.cofactors h.shown.fit h.shown.rise))
    (scaled_counted m es r (n, r (pos 1)) a.cofactors h.counted)
    (product_narrow m ring es n a h d)
