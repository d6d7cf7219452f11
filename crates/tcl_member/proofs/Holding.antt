-- The cofactors of what is sound can be held: over the integers each norm is at most the sum of the products of the norms.
use Rattle.std.proofs.Common.{◌≡◌, ℕ, zero, suc, ◌+◌, ◌*◌, ◌<◌, ◌≤◌, refl, sym, ◌∙◌, ap, subst, arith, Bool, true, false, ◌||◌, List, [], ◌∷◌, length, get_or, ℤ, pos, ◌*ℤ◌, unsigned_abs, Option, Some, None}
use Rattle.std.specs.List.{AllByRecursion}
use Rattle.std.specs.Prelude.{nat_le}
use Rattle.std.proofs.lemmas.Int.{ints}
use Rattle.std.proofs.lemmas.Bool.Decides.{nat_tests}
use Rattle.std.proofs.Math.Nat.{mul-le-mul_left}
use Rattle.tcl_num.proofs.IntegerOrder.{unsigned_abs_zero}
use Rattle.tcl_num.proofs.IntegerRing.{int_one_mul}
use Rattle.tcl_ring.specs.Reduction.{IsReduction, reduced_by, is_wide}
use Rattle.tcl_poly.specs.Monomial.{Monomial, IsMonomial, degree}
use Rattle.tcl_poly.specs.Polynomial.{Polynomial, IsPolynomial, IsOver, scaled, product_of, terms_of, norm_of, degree_of}
use Rattle.tcl_poly.specs.Combination.{Terms, equation_at, weight_of, AreCofactors}
use Rattle.tcl_poly.proofs.Weights.{reduced_weight}
use Rattle.tcl_poly.proofs.Canonical.{scaled_is}
use Rattle.tcl_poly.proofs.RingLaws.{sum_nothing}
use Rattle.tcl_poly.proofs.Norms.{narrower}
use Rattle.tcl_poly.proofs.TermLists.{terms_itself, degree_of_values}
use Rattle.tcl_reduce.specs.Remainder.{RiseFrom, pairs_of}
use Rattle.tcl_reduce.specs.Row.{Row}
use Rattle.tcl_pivots.specs.CofactorLists.{AreBelow, equations_of}
use Rattle.tcl_pivots.specs.RowState.{AreCounted, IsSound}
use Rattle.tcl_pivots.specs.RowLaws.{AreLow}
use Rattle.tcl_pivots.proofs.Trying.{equation_over}
use Rattle.tcl_pivots.proofs.Weighing.{row_norm}
use Rattle.tcl_pivots.proofs.Soundness.{sound_row}
use Rattle.tcl_member.specs.EquationRow.{AreBefore, AreHeldBy}
use Rattle.tcl_member.specs.Deep.{is_deep_product, are_deep_products}
use Rattle.tcl_member.specs.Multiplied.{IsFactor, AreMultiplied}
use Rattle.tcl_member.proofs.Booleans.{true_not_false}

-- ---- equations by their places

pub equation_shown : {E : Type 0} (value : E → ℤ) (es : List (Terms E)) (k : ℕ) (e : Terms E) → e ≡ get_or es k e → k < length es → equation_at (equations_of value es) k ≡ terms_of value e
equation_shown value [] k e is l = absurd (omega (arith, l))
equation_shown value (x ∷ es) zero e is l = ap (terms_of value) (sym is)
equation_shown value (x ∷ es) (suc k) e is l = equation_shown value es k e is (omega (arith, l))

pub equations_count : {E : Type 0} (value : E → ℤ) (es : List (Terms E)) → length (equations_of value es) ≡ length es
equations_count value [] = refl
equations_count value (e ∷ es) = ap suc (equations_count value es)

pub low_at : (es : List Polynomial) (k : ℕ) → AreLow es → degree_of (equation_at es k) ≤ 1024
low_at [] zero h = omega arith
low_at [] (suc k) h = omega arith
low_at (e ∷ es) zero h = h.0
low_at (e ∷ es) (suc k) h = low_at es k h.1

-- ---- numbers

pub rise_before : {E : Type 0} (value : E → ℤ) (least end n : ℕ) (cs : List (ℕ × Terms E)) → end ≤ n → RiseFrom least end (pairs_of value cs) → AreBefore n cs
rise_before value least end n [] l h = tt
rise_before value least end n (c ∷ cs) l h = (omega (arith, l, h.1), rise_before value (suc c.0) end n cs l h.2)

-- ---- norms

some_norm : (p : Polynomial) → IsPolynomial (reduced_by None) p → (p ≡ [] → ⊥) → 1 ≤ norm_of p
some_norm [] h n = absurd (n refl)
some_norm (t ∷ p) h n = at (unsigned_abs t.1) refl where
  at : (k : ℕ) → unsigned_abs t.1 ≡ k → 1 ≤ norm_of (t ∷ p)
  at zero e = absurd (h.1 (unsigned_abs_zero t.1 e))
  at (suc k) e = omega (arith, e)

times_least : (n k : ℕ) → 1 ≤ k → n ≤ n * k
times_least n k h = omega (arith, mul-le-mul_left n h)

-- every cofactor's norm is not too great
abbrev AreLight : Option ℕ → List (ℕ × Polynomial) → Type 0
AreLight m cs = AllByRecursion (λ c. is_wide m (norm_of c.1) ≡ false) cs

light_residues : (m : ℕ) (cs : List (ℕ × Polynomial)) → AreLight (Some m) cs
light_residues m [] = tt
light_residues m (c ∷ cs) = (refl, light_residues m cs)

light_integers : (es : List Polynomial) (cs : List (ℕ × Polynomial)) (most : ℕ) → AllByRecursion (IsPolynomial (reduced_by None)) es → AreCounted None es cs → weight_of (λ n. n) es cs ≤ most → is_wide None most ≡ false → AreLight None cs
light_integers es [] most h i l w = tt
light_integers es (c ∷ cs) most h i l w =
    let e = equation_at es c.0 in
    let own = ap (λ z. norm_of z) (terms_itself c.1) in
    let other = ap (λ z. norm_of z) (terms_itself e) in
    let whole : norm_of (terms_of (λ n. n) c.1) * norm_of (terms_of (λ n. n) e) ≡ norm_of c.1 * norm_of e = λ k. own k * other k in
    let least = times_least (norm_of c.1) (norm_of e) (some_norm e (equation_over (reduced_by None) es c.0 h) i.0) in
    (narrower None most (norm_of c.1) w (omega (arith, whole, least, l)), light_integers es cs most h i.1 (omega (arith, l)) w)

are_light : (m : Option ℕ) (es : List Polynomial) (cs : List (ℕ × Polynomial)) → AllByRecursion (IsPolynomial (reduced_by m)) es → AreCounted m es cs → is_wide m (weight_of (λ n. n) es cs) ≡ false → AreLight m cs
are_light None es cs h i w = light_integers es cs (weight_of (λ n. n) es cs) h i (omega arith) w
are_light (Some m) es cs h i w = light_residues m cs

held_all : {E : Type 0} (m : Option ℕ) (value : E → ℤ) (es : List Polynomial) (cs : List (ℕ × Terms E)) → AreCofactors m (λ n. n) es (pairs_of value cs) → AreLight m (pairs_of value cs) → AreHeldBy m value cs
held_all m value es [] h i = tt
held_all m value es (c ∷ cs) h i =
    (subst (IsPolynomial (reduced_by m)) (terms_itself (terms_of value c.1)) h.1, i.0, held_all m value es cs h.3 i.1)

pub held_by : {E : Type 0} (m : Option ℕ) (value : E → ℤ) (es : List Polynomial) (cs : List (ℕ × Terms E)) → AllByRecursion (IsPolynomial (reduced_by m)) es → AreCofactors m (λ n. n) es (pairs_of value cs) → AreCounted m es (pairs_of value cs) → is_wide m (weight_of (λ n. n) es (pairs_of value cs)) ≡ false → AreHeldBy m value cs
held_by m value es cs over fit counted narrow = held_all m value es cs fit (are_light m es (pairs_of value cs) over counted narrow)

-- a sound row's own norm is not too great
pub row_light : (m : Option ℕ) → IsReduction (reduced_by m) → (es : List Polynomial) (a : Row) → AllByRecursion (IsPolynomial (reduced_by m)) es → IsSound m es a → is_wide m (norm_of a.poly) ≡ false
row_light None ring es a over h =
    narrower None (weight_of (λ n. n) es a.cofactors) (norm_of a.poly) h.shown.narrow (row_norm es a over h.over (sound_row None ring es a h))
row_light (Some m) ring es a over h = refl

-- ---- factors of one term

-- where a polynomial is not zero, 1 is not 0
one_not_zero : (r : ℤ → ℤ) → IsReduction r → (p : Polynomial) → IsPolynomial r p → (p ≡ [] → ⊥) → r (pos 1) ≡ pos 0 → ⊥
one_not_zero r ring [] h some e = some refl
one_not_zero r ring (t ∷ p) h some e =
    h.1 (sym h.2 ∙ ap r (sym (int_one_mul t.1)) ∙ sym (reduced_weight r ring (pos 1) t.1) ∙ ap (λ z. r (z *ℤ t.1)) e ∙ ap r (none t.1) ∙ ring.null) where
      none : (a : ℤ) → pos 0 *ℤ a ≡ pos 0
      none a = omega (arith, ints)

pub factor_over : {E : Type 0} (m : Option ℕ) → IsReduction (reduced_by m) → (value : E → ℤ) (n : Monomial) (t : Terms E) (p : Polynomial) → IsFactor (reduced_by m) value n t → IsMonomial n → IsPolynomial (reduced_by m) p → (p ≡ [] → ⊥) → IsOver m value t
factor_over m ring value n t p is i h some =
    subst (IsPolynomial (reduced_by m)) (sym is) (i, one_not_zero (reduced_by m) ring p h some, ring.twice (pos 1), tt, tt)

pub factor_degree : {E : Type 0} (r : ℤ → ℤ) (value : E → ℤ) (n : Monomial) (t : Terms E) → IsFactor r value n t → degree_of t ≡ degree n
factor_degree r value n t is = sym (degree_of_values value t) ∙ ap (λ z. degree_of z) is

pub factor_light : {E : Type 0} (m : Option ℕ) (value : E → ℤ) (n : Monomial) (t : Terms E) (p : Polynomial) → IsFactor (reduced_by m) value n t → is_wide m (norm_of p) ≡ false → is_wide m (norm_of (terms_of value t) * norm_of p) ≡ false
factor_light (Some m) value n t p is w = refl
factor_light None value n t p is w =
    let one : norm_of (terms_of value t) ≡ 1 = ap (λ z. norm_of z) is in
    let same : norm_of (terms_of value t) * norm_of p ≡ 1 * norm_of p = ap (λ z. z * norm_of p) one in
    narrower None (norm_of p) (norm_of (terms_of value t) * norm_of p) w (omega (arith, same))

-- the product with such a factor
pub factor_product : {E : Type 0} (r : ℤ → ℤ) → IsReduction r → (value : E → ℤ) (n : Monomial) (t : Terms E) (p : Polynomial) → IsFactor r value n t → IsMonomial n → IsPolynomial r p → product_of r (terms_of value t) p ≡ scaled r (n, r (pos 1)) p
factor_product r ring value n t p is i h =
    ap (λ z. product_of r z p) is ∙ sum_nothing r ring (scaled r (n, r (pos 1)) p) (scaled_is r ring (n, r (pos 1)) p i h)

multiplied_all : {E : Type 0} (m : Option ℕ) (value : E → ℤ) (es : List Polynomial) (n : Monomial) (t : Terms E) (cs : List (ℕ × Terms E)) → IsFactor (reduced_by m) value n t → degree n ≤ 1024 → AreCofactors m (λ n. n) es (pairs_of value cs) → AreLight m (pairs_of value cs) → are_deep_products es (degree n) (pairs_of value cs) ≡ false → AreMultiplied m value t cs
multiplied_all m value es n t [] is l h i d = tt
multiplied_all m value es n t (c ∷ cs) is l h i d =
    let p = terms_of value c.1 in
    let e = equation_at es c.0 in
    let here = left (is_deep_product (degree n) p e) (are_deep_products es (degree n) (pairs_of value cs)) d in
    let there = right (is_deep_product (degree n) p e) (are_deep_products es (degree n) (pairs_of value cs)) d in (
      subst (IsPolynomial (reduced_by m)) (terms_itself p) h.1,
      omega (arith, factor_degree (reduced_by m) value n t is, degree_of_values value c.1, shallow (degree n) p e l here),
      factor_light m value n t p is i.0,
      multiplied_all m value es n t cs is l h.3 i.1 there,
    )
  where
    left : (a b : Bool) → (a || b) ≡ false → a ≡ false
    left true b e = e
    left false b e = refl

    right : (a b : Bool) → (a || b) ≡ false → b ≡ false
    right true b e = absurd (true_not_false true refl e)
    right false b e = e

    high : (a b : ℕ) → nat_le 1025 (a + b) ≡ false → a ≤ 1024
    high a b e = grind (arith, nat_tests)

    shallow : (d : ℕ) (p e : Polynomial) → d ≤ 1024 → is_deep_product d p e ≡ false → d + degree_of p ≤ 1024
    shallow d [] e l h = omega (arith, l)
    shallow d (u ∷ p) e l h = high (d + degree u.0) (degree_of e) h

pub are_multiplied : {E : Type 0} (m : Option ℕ) (value : E → ℤ) (es : List Polynomial) (n : Monomial) (t : Terms E) (cs : List (ℕ × Terms E)) → AllByRecursion (IsPolynomial (reduced_by m)) es → IsFactor (reduced_by m) value n t → degree n ≤ 1024 → AreCofactors m (λ n. n) es (pairs_of value cs) → AreCounted m es (pairs_of value cs) → is_wide m (weight_of (λ n. n) es (pairs_of value cs)) ≡ false → are_deep_products es (degree n) (pairs_of value cs) ≡ false → AreMultiplied m value t cs
are_multiplied m value es n t cs over is l fit counted narrow deep =
    multiplied_all m value es n t cs is l fit (are_light m es (pairs_of value cs) over counted narrow) deep

pub fit_below : {E : Type 0} (m : Option ℕ) (value : E → ℤ) (es : List (Terms E)) (cs : List (ℕ × Terms E)) → AreCofactors m (λ n. n) (equations_of value es) (pairs_of value cs) → AreBelow (length es) cs
fit_below m value es [] h = tt
fit_below m value es (c ∷ cs) h = (omega (arith, h.0, equations_count value es), fit_below m value es cs h.3)
