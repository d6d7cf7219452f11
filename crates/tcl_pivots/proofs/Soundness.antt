-- A step keeps rows sound, or is wide: what is too great to be held is always wide.
use Rattle.std.proofs.Common.{◌≡◌, ℕ, zero, suc, ◌+◌, ◌*◌, ◌<◌, ◌≤◌, refl, sym, ◌∙◌, ap, subst, arith, Bool, true, false, ◌||◌, List, [], ◌∷◌, length, ℤ, neg_ℤ, unsigned_abs, Option, None, Some, Ordering, Less, Equal, Greater}
use Rattle.std.specs.List.{AllByRecursion}
use Rattle.std.specs.Ordering.{nat_cmp, MatchOrdering}
use Rattle.std.proofs.lemmas.Cmp.{ranked}
use Rattle.std.proofs.Math.Nat.{mul-le-mul_left}
use Rattle.tcl_num.proofs.IntegerOrder.{unsigned_abs_zero}
use Rattle.tcl_ring.specs.Reduction.{IsReduction, reduced_by, is_wide}
use Rattle.tcl_poly.specs.Polynomial.{Term, Polynomial, IsPolynomial, sum_of, scaled, weigh, norm_of, has_wide, terms_of}
use Rattle.tcl_poly.specs.Combination.{equation_at, combination_of, weight_of, AreCofactors}
use Rattle.tcl_poly.proofs.Canonical.{sum_is, scaled_is, same_alike}
use Rattle.tcl_poly.proofs.Norms.{narrower}
use Rattle.tcl_poly.proofs.TermLists.{terms_itself}
use Rattle.tcl_reduce.specs.CofactorSum.{front_cofactor, put_cofactor_at, put_cofactor, sum_cofactors, scaled_cofactors, is_deep, are_wide}
use Rattle.tcl_pivots.specs.CofactorLists.{AreOrdered, any_wide}
use Rattle.tcl_reduce.specs.Remainder.{RiseFrom}
use Rattle.tcl_reduce.specs.Row.{Row, Pivot, quotient_at, row_less}
use Rattle.tcl_pivots.specs.RowState.{AreCounted, IsSound}
use Rattle.tcl_pivots.proofs.Trying.{equation_over}
use Rattle.tcl_pivots.proofs.Making.{combination_heavy, AreMade, IsRow, less_row}
use Rattle.tcl_pivots.proofs.Weighing.{made_combination, row_norm}
use Rattle.tcl_pivots.proofs.Showing.{fit_made, made_fit, or_left, or_right}

pub clash : true ≡ false → ⊥
clash z = cc

-- ---- what is too great

pub wider : (m : Option ℕ) (a b : ℕ) → is_wide m a ≡ true → a ≤ b → is_wide m b ≡ true
wider m a b h l = by (is_wide m b) refl where
  by : (x : Bool) → is_wide m b ≡ x → is_wide m b ≡ true
  by true e = e
  by false e = absurd (clash (sym h ∙ narrower m b a e l))

pub or_second : (a b : Bool) → b ≡ true → (a || b) ≡ true
or_second true b e = refl
or_second false b e = e

pub none_wide : (m : ℕ) (p : Polynomial) → has_wide (Some m) p ≡ false
none_wide m [] = refl
none_wide m (t ∷ p) = none_wide m p

no_cofactor_wide : (m : ℕ) (cs : List (ℕ × Polynomial)) → any_wide (Some m) cs ≡ false
no_cofactor_wide m [] = refl
no_cofactor_wide m (c ∷ cs) = ap (λ w. w || any_wide (Some m) cs) (none_wide m c.1) ∙ no_cofactor_wide m cs

either : (a b : Bool) (X : Type 0) → (a || b) ≡ true → (a ≡ true → X) → (b ≡ true → X) → X
either true b X e f g = f refl
either false b X e f g = g e

pub wide_norm : (p : Polynomial) → has_wide None p ≡ true → is_wide None (norm_of p) ≡ true
wide_norm [] h = absurd (clash (sym h))
wide_norm (t ∷ p) h =
    either (is_wide None (unsigned_abs t.1)) (has_wide None p) (is_wide None (norm_of (t ∷ p)) ≡ true) h
    (λ w. wider None (unsigned_abs t.1) (norm_of (t ∷ p)) w (omega arith))
    (λ w. wider None (norm_of p) (norm_of (t ∷ p)) (wide_norm p w) (omega arith))

-- a row with a coefficient that is too great is wide
pub row_wide : (m : Option ℕ) (es : List Polynomial) (a : Row) → AllByRecursion (IsPolynomial (reduced_by m)) es → IsPolynomial (reduced_by m) a.poly → IsRow (reduced_by m) es a → has_wide m a.poly ≡ true → are_wide m es 0 a.cofactors ≡ true
row_wide (Some k) es a h i j w = absurd (clash (sym w ∙ none_wide k a.poly))
row_wide None es a h i j w =
    or_second (is_deep es a.cofactors) (is_wide None (0 + weight_of (λ n. n) es a.cofactors))
    (wider None (norm_of a.poly) (0 + weight_of (λ n. n) es a.cofactors) (wide_norm a.poly w) (omega (arith, row_norm es a h i j)))

some_norm : (p : Polynomial) → IsPolynomial (reduced_by None) p → (p ≡ [] → ⊥) → 1 ≤ norm_of p
some_norm [] h n = absurd (n refl)
some_norm (t ∷ p) h n = at (unsigned_abs t.1) refl where
  at : (k : ℕ) → unsigned_abs t.1 ≡ k → 1 ≤ norm_of (t ∷ p)
  at zero e = absurd (h.1 (unsigned_abs_zero t.1 e))
  at (suc k) e = omega (arith, e)

times_least : (n k : ℕ) → 1 ≤ k → n ≤ n * k
times_least n k h = omega (arith, mul-le-mul_left n h)

weight_wide : (es : List Polynomial) (cs : List (ℕ × Polynomial)) → AllByRecursion (IsPolynomial (reduced_by None)) es → AreCounted None es cs → any_wide None cs ≡ true → is_wide None (weight_of (λ n. n) es cs) ≡ true
weight_wide es [] h i w = absurd (clash (sym w))
weight_wide es (c ∷ cs) h i w =
    let e = equation_at es c.0 in
    let all = weight_of (λ n. n) es (c ∷ cs) in
    let own = ap (λ z. norm_of z) (terms_itself c.1) in
    let other = ap (λ z. norm_of z) (terms_itself e) in
    let whole : norm_of (terms_of (λ n. n) c.1) * norm_of (terms_of (λ n. n) e) ≡ norm_of c.1 * norm_of e = λ k. own k * other k in
    either (has_wide None c.1) (any_wide None cs) (is_wide None all ≡ true) w
    (λ x. wider None (norm_of c.1) all (wide_norm c.1 x) (omega (arith, whole, times_least (norm_of c.1) (norm_of e) (some_norm e (equation_over (reduced_by None) es c.0 h) i.0))))
    (λ x. wider None (weight_of (λ n. n) es cs) all (weight_wide es cs h i.1 x) (omega arith))

-- and so are cofactors with one
pub cofactors_wide : (m : Option ℕ) (es : List Polynomial) (norm : ℕ) (cs : List (ℕ × Polynomial)) → AllByRecursion (IsPolynomial (reduced_by m)) es → AreCounted m es cs → any_wide m cs ≡ true → are_wide m es norm cs ≡ true
cofactors_wide (Some k) es norm cs h i w = absurd (clash (sym w ∙ no_cofactor_wide k cs))
cofactors_wide None es norm cs h i w =
    or_second (is_deep es cs) (is_wide None (norm + weight_of (λ n. n) es cs))
    (wider None (weight_of (λ n. n) es cs) (norm + weight_of (λ n. n) es cs) (weight_wide es cs h i w) (omega arith))

-- ---- what holds of the numbers of all cofactors holds after a step

abbrev pub AllNumbers : (ℕ → Type 0) → List (ℕ × Polynomial) → Type 0
AllNumbers Q cs = AllByRecursion (λ c. Q c.0) cs

front_numbers : (Q : ℕ → Type 0) (k : ℕ) (p : Polynomial) (cs : List (ℕ × Polynomial)) → Q k → AllNumbers Q cs → AllNumbers Q (front_cofactor k p cs)
front_numbers Q k [] cs h i = i
front_numbers Q k (t ∷ p) cs h i = (h, i)

put_numbers_at : (Q : ℕ → Type 0) (r : ℤ → ℤ) (o : Ordering) (c d : ℕ × Polynomial) (cs further : List (ℕ × Polynomial)) → Q c.0 → AllNumbers Q (d ∷ cs) → AllNumbers Q further → AllNumbers Q (put_cofactor_at r o c d cs further)
put_numbers_at Q r Less c d cs further h i j = front_numbers Q c.0 c.1 (d ∷ cs) h i
put_numbers_at Q r Equal c d cs further h i j = front_numbers Q d.0 (sum_of r c.1 d.1) cs i.0 i.1
put_numbers_at Q r Greater c d cs further h i j = (i.0, j)

put_numbers : (Q : ℕ → Type 0) (r : ℤ → ℤ) (c : ℕ × Polynomial) (cs : List (ℕ × Polynomial)) → Q c.0 → AllNumbers Q cs → AllNumbers Q (put_cofactor r c cs)
put_numbers Q r c [] h i = front_numbers Q c.0 c.1 [] h tt
put_numbers Q r c (d ∷ cs) h i = put_numbers_at Q r (nat_cmp c.0 d.0) c d cs (put_cofactor r c cs) h i (put_numbers Q r c cs h i.1)

pub sum_numbers : (Q : ℕ → Type 0) (r : ℤ → ℤ) (cs ds : List (ℕ × Polynomial)) → AllNumbers Q cs → AllNumbers Q ds → AllNumbers Q (sum_cofactors r cs ds)
sum_numbers Q r [] ds h i = i
sum_numbers Q r (c ∷ cs) ds h i = put_numbers Q r c (sum_cofactors r cs ds) h.0 (sum_numbers Q r cs ds h.1 i)

pub scaled_numbers : (Q : ℕ → Type 0) (r : ℤ → ℤ) (t : Term) (cs : List (ℕ × Polynomial)) → AllNumbers Q cs → AllNumbers Q (scaled_cofactors r t cs)
scaled_numbers Q r t [] h = tt
scaled_numbers Q r t (c ∷ cs) h = front_numbers Q c.0 (scaled r t c.1) (scaled_cofactors r t cs) h.0 (scaled_numbers Q r t cs h.1)

pub sum_counted : (m : Option ℕ) (es : List Polynomial) (r : ℤ → ℤ) (t : Term) (cs ds : List (ℕ × Polynomial)) → AreCounted m es cs → AreCounted m es ds → AreCounted m es (sum_cofactors r cs (scaled_cofactors r t ds))
sum_counted (Some k) es r t cs ds h i = tt
sum_counted None es r t cs ds h i =
    let Q : ℕ → Type 0 = λ k. equation_at es k ≡ [] → ⊥ in
    sum_numbers Q r cs (scaled_cofactors r t ds) h (scaled_numbers Q r t ds i)

-- ---- the numbers rise

ordered_lower : (r : ℤ → ℤ) (least most : ℕ) (cs : List (ℕ × Polynomial)) → least ≤ most → AreOrdered r most cs → AreOrdered r least cs
ordered_lower r least most [] h i = tt
ordered_lower r least most (c ∷ cs) h i = (omega (arith, h, i.0), i.1, i.2)

front_ordered : (r : ℤ → ℤ) (least k : ℕ) (p : Polynomial) (cs : List (ℕ × Polynomial)) → least ≤ k → IsPolynomial r p → AreOrdered r (suc k) cs → AreOrdered r least (front_cofactor k p cs)
front_ordered r least k [] cs h i j = ordered_lower r least (suc k) cs (omega (arith, h)) j
front_ordered r least k (t ∷ p) cs h i j = (h, i, j)

put_ordered_at : (r : ℤ → ℤ) → IsReduction r → (least : ℕ) (o : Ordering) (c d : ℕ × Polynomial) (cs further : List (ℕ × Polynomial)) → MatchOrdering o (c.0 < d.0) (c.0 ≡ d.0) (d.0 < c.0) → least ≤ c.0 → IsPolynomial r c.1 → AreOrdered r least (d ∷ cs) → (suc d.0 ≤ c.0 → AreOrdered r (suc d.0) further) → AreOrdered r least (put_cofactor_at r o c d cs further)
put_ordered_at r ring least Less c d cs further s h i j more = front_ordered r least c.0 c.1 (d ∷ cs) h i (omega (arith, s), j.1, j.2)
put_ordered_at r ring least Equal c d cs further s h i j more = front_ordered r least d.0 (sum_of r c.1 d.1) cs j.0 (sum_is r ring c.1 d.1 i j.1) j.2
put_ordered_at r ring least Greater c d cs further s h i j more = (j.0, j.1, more (omega (arith, s)))

put_ordered : (r : ℤ → ℤ) → IsReduction r → (least : ℕ) (c : ℕ × Polynomial) (cs : List (ℕ × Polynomial)) → least ≤ c.0 → IsPolynomial r c.1 → AreOrdered r least cs → AreOrdered r least (put_cofactor r c cs)
put_ordered r ring least c [] h i j = front_ordered r least c.0 c.1 [] h i tt
put_ordered r ring least c (d ∷ cs) h i j =
    put_ordered_at r ring least (nat_cmp c.0 d.0) c d cs (put_cofactor r c cs) (ranked c.0 d.0 (nat_cmp c.0 d.0) refl) h i j
    (λ l. put_ordered r ring (suc d.0) c cs l i j.2)

pub sum_ordered : (r : ℤ → ℤ) → IsReduction r → (least : ℕ) (cs ds : List (ℕ × Polynomial)) → AreOrdered r least cs → AreOrdered r least ds → AreOrdered r least (sum_cofactors r cs ds)
sum_ordered r ring least [] ds h i = i
sum_ordered r ring least (c ∷ cs) ds h i =
    put_ordered r ring least c (sum_cofactors r cs ds) h.0 h.1 (sum_ordered r ring least cs ds (ordered_lower r least (suc c.0) cs (omega (arith, h.0)) h.2) i)

pub scaled_ordered : (r : ℤ → ℤ) → IsReduction r → (least : ℕ) (k : ℤ) (cs : List (ℕ × Polynomial)) → AreOrdered r least cs → AreOrdered r least (scaled_cofactors r ([], k) cs)
scaled_ordered r ring least k [] h = tt
scaled_ordered r ring least k (c ∷ cs) h =
    front_ordered r least c.0 (scaled r ([], k) c.1) (scaled_cofactors r ([], k) cs) h.0 (scaled_is r ring ([], k) c.1 tt h.1) (scaled_ordered r ring (suc c.0) k cs h.2)

-- ---- between a list that is ordered and one that fits

pub fit_ordered : (m : Option ℕ) (es : List Polynomial) (least end : ℕ) (cs : List (ℕ × Polynomial)) → AreCofactors m (λ n. n) es cs → RiseFrom least end cs → AreOrdered (reduced_by m) least cs
fit_ordered m es least end [] h i = tt
fit_ordered m es least end (c ∷ cs) h i =
    (i.0, subst (IsPolynomial (reduced_by m)) (terms_itself c.1) h.1, fit_ordered m es (suc c.0) end cs h.3 i.2)

pub ordered_rise : (r : ℤ → ℤ) (least end : ℕ) (cs : List (ℕ × Polynomial)) → AreOrdered r least cs → AreMade r end cs → RiseFrom least end cs
ordered_rise r least end [] h i = tt
ordered_rise r least end (c ∷ cs) h i = (h.0, i.0.0, ordered_rise r (suc c.0) end cs h.2 i.1)

-- ---- rows

-- a sound row by weights
pub sound_row : (m : Option ℕ) → IsReduction (reduced_by m) → (es : List Polynomial) (a : Row) → IsSound m es a → IsRow (reduced_by m) es a
sound_row m ring es a h = record {
  made = fit_made m es a.cofactors h.shown.fit;
  sum = λ φ. ap (λ p. reduced_by m (weigh φ p)) h.shown.kept ∙ combination_heavy (reduced_by m) ring es φ a.cofactors;
}

-- a row that is not wide is sound
pub row_sound : (m : Option ℕ) → IsReduction (reduced_by m) → (es : List Polynomial) (norm : ℕ) (a : Row) → AllByRecursion (IsPolynomial (reduced_by m)) es → IsPolynomial (reduced_by m) a.poly → IsRow (reduced_by m) es a → AreOrdered (reduced_by m) 0 a.cofactors → AreCounted m es a.cofactors → are_wide m es norm a.cofactors ≡ false → IsSound m es a
row_sound m ring es norm a h o row ordered counted narrow =
    let r = reduced_by m in
    let weight = weight_of (λ n. n) es a.cofactors in
    let fit = made_fit m es a.cofactors row.made (or_left (is_deep es a.cofactors) (is_wide m (norm + weight)) narrow) in
    record {
      over = o;
      shown = record {
        kept = same_alike r ring a.poly (combination_of r (λ n. n) es a.cofactors) o (made_combination r ring es a.cofactors h row.made) (λ φ. row.sum φ ∙ sym (combination_heavy r ring es φ a.cofactors));
        fit = fit;
        rise = ordered_rise r 0 (length es) a.cofactors ordered row.made;
        narrow = narrower m (norm + weight) weight (or_right (is_deep es a.cofactors) (is_wide m (norm + weight)) narrow) (omega arith);
      };
      counted = counted;
    }

less_over : (m : Option ℕ) → IsReduction (reduced_by m) → (a : Row) (p : Pivot) → IsPolynomial (reduced_by m) a.poly → IsPolynomial (reduced_by m) p.row.poly → IsPolynomial (reduced_by m) (row_less (reduced_by m) a p).poly
less_over m ring a p h i =
    let c = neg_ℤ (quotient_at (reduced_by m) a.poly p) in
    sum_is (reduced_by m) ring a.poly (scaled (reduced_by m) ([], c) p.row.poly) h (scaled_is (reduced_by m) ring ([], c) p.row.poly tt i)

-- a step with a coefficient that is too great is wide
pub less_poly_wide : (m : Option ℕ) → IsReduction (reduced_by m) → (es : List Polynomial) (a : Row) (p : Pivot) → AllByRecursion (IsPolynomial (reduced_by m)) es → IsSound m es a → IsSound m es p.row → has_wide m (row_less (reduced_by m) a p).poly ≡ true → are_wide m es 0 (row_less (reduced_by m) a p).cofactors ≡ true
less_poly_wide m ring es a p h i j w =
    row_wide m es (row_less (reduced_by m) a p) h (less_over m ring a p i.over j.over)
    (less_row (reduced_by m) ring es a p (sound_row m ring es a i) (sound_row m ring es p.row j)) w

less_counted : (m : Option ℕ) (es : List Polynomial) (a : Row) (p : Pivot) → IsSound m es a → IsSound m es p.row → AreCounted m es (row_less (reduced_by m) a p).cofactors
less_counted m es a p i j =
    sum_counted m es (reduced_by m) ([], neg_ℤ (quotient_at (reduced_by m) a.poly p)) a.cofactors p.row.cofactors i.counted j.counted

pub less_cofactors_wide : (m : Option ℕ) (es : List Polynomial) (a : Row) (p : Pivot) → AllByRecursion (IsPolynomial (reduced_by m)) es → IsSound m es a → IsSound m es p.row → any_wide m (row_less (reduced_by m) a p).cofactors ≡ true → are_wide m es 0 (row_less (reduced_by m) a p).cofactors ≡ true
less_cofactors_wide m es a p h i j w = cofactors_wide m es 0 (row_less (reduced_by m) a p).cofactors h (less_counted m es a p i j) w

-- a step that is not wide keeps the row sound
pub less_sound : (m : Option ℕ) → IsReduction (reduced_by m) → (es : List Polynomial) (a : Row) (p : Pivot) → AllByRecursion (IsPolynomial (reduced_by m)) es → IsSound m es a → IsSound m es p.row → are_wide m es 0 (row_less (reduced_by m) a p).cofactors ≡ false → IsSound m es (row_less (reduced_by m) a p)
less_sound m ring es a p h i j w =
    let r = reduced_by m in
    let c = neg_ℤ (quotient_at r a.poly p) in
    row_sound m ring es 0 (row_less r a p) h (less_over m ring a p i.over j.over)
    (less_row r ring es a p (sound_row m ring es a i) (sound_row m ring es p.row j))
    (sum_ordered r ring 0 a.cofactors (scaled_cofactors r ([], c) p.row.cofactors) (fit_ordered m es 0 (length es) a.cofactors i.shown.fit i.shown.rise)
    (scaled_ordered r ring 0 c p.row.cofactors (fit_ordered m es 0 (length es) p.row.cofactors j.shown.fit j.shown.rise)))
    (less_counted m es a p i j) w
