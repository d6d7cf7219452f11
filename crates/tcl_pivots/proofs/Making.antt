-- Rows are the sums of their cofactors times the equations: each step keeps this, for every weight of the monomials.
use Rattle.std.proofs.Common.{◌≡◌, ℕ, ◌<◌, refl, sym, ◌∙◌, ap, arith, List, [], ◌∷◌, length, ◌==◌, if◌then◌else◌, ℤ, pos, ◌+ℤ◌, ◌*ℤ◌, neg_ℤ, unsigned_abs, Option, Some, None, Ordering, Less, Equal, Greater}
use Rattle.std.specs.List.{AllByRecursion}
use Rattle.std.specs.Ordering.{nat_cmp}
use Rattle.std.proofs.lemmas.Int.{ints}
use Rattle.tcl_num.proofs.IntegerRing.{int_zero_add, int_add_assoc, int_mul_add, int_mul_zero}
use Rattle.tcl_ring.specs.Reduction.{IsReduction, reduced_by}
use Rattle.tcl_poly.specs.Monomial.{Monomial, IsMonomial, times}
use Rattle.tcl_poly.specs.Polynomial.{Term, Polynomial, IsPolynomial, sum_of, scaled, product_of, weigh, coefficient, terms_of}
use Rattle.tcl_poly.proofs.MonomialLaws.{numbers_equal, times_assoc}
use Rattle.tcl_poly.proofs.Weights.{two_sums, right_sum, weigh_sum, weigh_scaled, weigh_product}
use Rattle.tcl_poly.proofs.Canonical.{sum_is, scaled_is}
use Rattle.tcl_poly.proofs.RingLaws.{weigh_alike_on}
use Rattle.tcl_poly.proofs.TermLists.{terms_itself}
use Rattle.tcl_poly.specs.Combination.{equation_at, combination_of}
use Rattle.tcl_reduce.specs.CofactorSum.{front_cofactor, put_cofactor_at, put_cofactor, sum_cofactors, scaled_cofactors, are_wide}
use Rattle.tcl_reduce.specs.Inverse.{inverse_of}
use Rattle.tcl_reduce.specs.Row.{Row, Pivot, Rows, leading, quotient_at, by_leading, row_less, row_by, keep_by, keep, add_reduced, add_row}
use Rattle.tcl_reduce.specs.Multiple.{multiplied}
use Rattle.tcl_pivots.proofs.Inverting.{OnSome, on_if}
use Rattle.tcl_pivots.proofs.Pivots.{all_more, all_sorted}
use Rattle.tcl_pivots.proofs.Trying.{equation_over}

abbrev pub inner : List Polynomial → (Monomial → ℤ) → ℕ → Monomial → ℤ
inner es φ k n = weigh (λ m. φ (times n m)) (equation_at es k)

-- the weight of the sum of the products
abbrev pub heavy : List Polynomial → (Monomial → ℤ) → List (ℕ × Polynomial) → ℤ
heavy es φ [] = pos 0
heavy es φ (c ∷ cs) = weigh (inner es φ c.0) c.1 +ℤ heavy es φ cs

pub combination_heavy : (r : ℤ → ℤ) → IsReduction r → (es : List Polynomial) (φ : Monomial → ℤ) (cs : List (ℕ × Polynomial)) → r (weigh φ (combination_of r (λ n. n) es cs)) ≡ r (heavy es φ cs)
combination_heavy r ring es φ [] = refl
combination_heavy r ring es φ (c ∷ cs) =
    let e = equation_at es c.0 in
    let p = product_of r (terms_of (λ n. n) c.1) (terms_of (λ n. n) e) in
    let q = combination_of r (λ n. n) es cs in
    weigh_sum r ring φ p q
    ∙ two_sums r ring (weigh φ p) (weigh (inner es φ c.0) c.1) (weigh φ q) (heavy es φ cs)
    ((λ i. r (weigh φ (product_of r (terms_itself c.1 i) (terms_itself e i)))) ∙ weigh_product r ring φ c.1 e)
    (combination_heavy r ring es φ cs)

front_heavy : (es : List Polynomial) (φ : Monomial → ℤ) (k : ℕ) (p : Polynomial) (cs : List (ℕ × Polynomial)) → heavy es φ (front_cofactor k p cs) ≡ weigh (inner es φ k) p +ℤ heavy es φ cs
front_heavy es φ k [] cs = sym (int_zero_add (heavy es φ cs))
front_heavy es φ k (t ∷ p) cs = refl

exchanged : (a b c : ℤ) → b +ℤ (a +ℤ c) ≡ a +ℤ (b +ℤ c)
exchanged a b c = omega (arith, ints)

put_heavy_at : (r : ℤ → ℤ) → IsReduction r → (es : List Polynomial) (φ : Monomial → ℤ) (o : Ordering) (c d : ℕ × Polynomial) (cs further : List (ℕ × Polynomial)) → (o ≡ Equal → c.0 ≡ d.0) → r (heavy es φ further) ≡ r (weigh (inner es φ c.0) c.1 +ℤ heavy es φ cs) → r (heavy es φ (put_cofactor_at r o c d cs further)) ≡ r (weigh (inner es φ c.0) c.1 +ℤ heavy es φ (d ∷ cs))
put_heavy_at r ring es φ Less c d cs further same e = ap r (front_heavy es φ c.0 c.1 (d ∷ cs))
put_heavy_at r ring es φ Equal c d cs further same e =
    let w = inner es φ d.0 in
    ap r (front_heavy es φ d.0 (sum_of r c.1 d.1) cs)
    ∙ ring.sums (weigh w (sum_of r c.1 d.1)) (weigh w c.1 +ℤ weigh w d.1) (heavy es φ cs) (weigh_sum r ring w c.1 d.1)
    ∙ ap r (int_add_assoc (weigh w c.1) (weigh w d.1) (heavy es φ cs))
    ∙ ap (λ k. r (weigh (inner es φ k) c.1 +ℤ (weigh w d.1 +ℤ heavy es φ cs))) (sym (same refl))
put_heavy_at r ring es φ Greater c d cs further same e =
    right_sum r ring (weigh (inner es φ d.0) d.1) (heavy es φ further) (weigh (inner es φ c.0) c.1 +ℤ heavy es φ cs) e
    ∙ ap r (exchanged (weigh (inner es φ c.0) c.1) (weigh (inner es φ d.0) d.1) (heavy es φ cs))

pub put_heavy : (r : ℤ → ℤ) → IsReduction r → (es : List Polynomial) (φ : Monomial → ℤ) (c : ℕ × Polynomial) (cs : List (ℕ × Polynomial)) → r (heavy es φ (put_cofactor r c cs)) ≡ r (weigh (inner es φ c.0) c.1 +ℤ heavy es φ cs)
put_heavy r ring es φ c [] = ap r (front_heavy es φ c.0 c.1 [])
put_heavy r ring es φ c (d ∷ cs) = put_heavy_at r ring es φ (nat_cmp c.0 d.0) c d cs (put_cofactor r c cs) (numbers_equal c.0 d.0) (put_heavy r ring es φ c cs)

pub sum_heavy : (r : ℤ → ℤ) → IsReduction r → (es : List Polynomial) (φ : Monomial → ℤ) (cs ds : List (ℕ × Polynomial)) → r (heavy es φ (sum_cofactors r cs ds)) ≡ r (heavy es φ cs +ℤ heavy es φ ds)
sum_heavy r ring es φ [] ds = ap r (sym (int_zero_add (heavy es φ ds)))
sum_heavy r ring es φ (c ∷ cs) ds =
    let a = weigh (inner es φ c.0) c.1 in
    put_heavy r ring es φ c (sum_cofactors r cs ds)
    ∙ right_sum r ring a (heavy es φ (sum_cofactors r cs ds)) (heavy es φ cs +ℤ heavy es φ ds) (sum_heavy r ring es φ cs ds)
    ∙ ap r (sym (int_add_assoc a (heavy es φ cs) (heavy es φ ds)))

-- by a constant
pub scaled_heavy : (r : ℤ → ℤ) → IsReduction r → (es : List Polynomial) (φ : Monomial → ℤ) (a : ℤ) (cs : List (ℕ × Polynomial)) → r (heavy es φ (scaled_cofactors r ([], a) cs)) ≡ r (a *ℤ heavy es φ cs)
scaled_heavy r ring es φ a [] = ap r (sym (int_mul_zero a))
scaled_heavy r ring es φ a (c ∷ cs) =
    let w = weigh (inner es φ c.0) c.1 in
    ap r (front_heavy es φ c.0 (scaled r ([], a) c.1) (scaled_cofactors r ([], a) cs))
    ∙ two_sums r ring (weigh (inner es φ c.0) (scaled r ([], a) c.1)) (a *ℤ w) (heavy es φ (scaled_cofactors r ([], a) cs)) (a *ℤ heavy es φ cs)
    (weigh_scaled r ring (inner es φ c.0) ([], a) c.1) (scaled_heavy r ring es φ a cs)
    ∙ ap r (sym (int_mul_add a w (heavy es φ cs)))

-- ---- cofactors are over the ring and have equations

abbrev pub AreMade : (ℤ → ℤ) → ℕ → List (ℕ × Polynomial) → Type 0
AreMade r n cs = AllByRecursion (λ c. (c.0 < n) × IsPolynomial r c.1) cs

front_made : (r : ℤ → ℤ) (n k : ℕ) (p : Polynomial) (cs : List (ℕ × Polynomial)) → k < n → IsPolynomial r p → AreMade r n cs → AreMade r n (front_cofactor k p cs)
front_made r n k [] cs h i j = j
front_made r n k (t ∷ p) cs h i j = ((h, i), j)

put_made_at : (r : ℤ → ℤ) → IsReduction r → (n : ℕ) (o : Ordering) (c d : ℕ × Polynomial) (cs further : List (ℕ × Polynomial)) → c.0 < n → IsPolynomial r c.1 → AreMade r n (d ∷ cs) → AreMade r n further → AreMade r n (put_cofactor_at r o c d cs further)
put_made_at r ring n Less c d cs further h i j k = front_made r n c.0 c.1 (d ∷ cs) h i j
put_made_at r ring n Equal c d cs further h i j k = front_made r n d.0 (sum_of r c.1 d.1) cs j.0.0 (sum_is r ring c.1 d.1 i j.0.1) j.1
put_made_at r ring n Greater c d cs further h i j k = (j.0, k)

pub put_made : (r : ℤ → ℤ) → IsReduction r → (n : ℕ) (c : ℕ × Polynomial) (cs : List (ℕ × Polynomial)) → c.0 < n → IsPolynomial r c.1 → AreMade r n cs → AreMade r n (put_cofactor r c cs)
put_made r ring n c [] h i j = front_made r n c.0 c.1 [] h i tt
put_made r ring n c (d ∷ cs) h i j = put_made_at r ring n (nat_cmp c.0 d.0) c d cs (put_cofactor r c cs) h i j (put_made r ring n c cs h i j.1)

pub sum_made : (r : ℤ → ℤ) → IsReduction r → (n : ℕ) (cs ds : List (ℕ × Polynomial)) → AreMade r n cs → AreMade r n ds → AreMade r n (sum_cofactors r cs ds)
sum_made r ring n [] ds h j = j
sum_made r ring n (c ∷ cs) ds h j = put_made r ring n c (sum_cofactors r cs ds) h.0.0 h.0.1 (sum_made r ring n cs ds h.1 j)

pub scaled_made : (r : ℤ → ℤ) → IsReduction r → (n : ℕ) (t : Term) (cs : List (ℕ × Polynomial)) → IsMonomial t.0 → AreMade r n cs → AreMade r n (scaled_cofactors r t cs)
scaled_made r ring n t [] i h = tt
scaled_made r ring n t (c ∷ cs) i h = front_made r n c.0 (scaled r t c.1) (scaled_cofactors r t cs) h.0.0 (scaled_is r ring t c.1 i h.0.1) (scaled_made r ring n t cs i h.1)

-- ---- rows

pub record IsRow (r : ℤ → ℤ) (es : List Polynomial) (a : Row) : Type 0 where
  pub made : AreMade r (length es) a.cofactors
  pub sum : (φ : Monomial → ℤ) → r (weigh φ a.poly) ≡ r (heavy es φ a.cofactors)

pub less_row : (r : ℤ → ℤ) → IsReduction r → (es : List Polynomial) (a : Row) (p : Pivot) → IsRow r es a → IsRow r es p.row → IsRow r es (row_less r a p)
less_row r ring es a p h j =
    let c = neg_ℤ (quotient_at r a.poly p) in
    record {
      made = sum_made r ring (length es) a.cofactors (scaled_cofactors r ([], c) p.row.cofactors) h.made (scaled_made r ring (length es) ([], c) p.row.cofactors tt j.made);
      sum = λ φ.
          weigh_sum r ring φ a.poly (scaled r ([], c) p.row.poly)
          ∙ two_sums r ring (weigh φ a.poly) (heavy es φ a.cofactors) (weigh φ (scaled r ([], c) p.row.poly)) (heavy es φ (scaled_cofactors r ([], c) p.row.cofactors)) (h.sum φ)
          (weigh_scaled r ring φ ([], c) p.row.poly ∙ ring.products (weigh φ p.row.poly) (heavy es φ p.row.cofactors) c (j.sum φ) ∙ sym (scaled_heavy r ring es φ c p.row.cofactors))
          ∙ sym (sum_heavy r ring es φ a.cofactors (scaled_cofactors r ([], c) p.row.cofactors));
    }

abbrev pub AreRowsOf : (ℤ → ℤ) → List Polynomial → List Pivot → Type 0
AreRowsOf r es ps = AllByRecursion (λ p. IsRow r es p.row) ps

row_by_row : (m : Option ℕ) → IsReduction (reduced_by m) → (es : List Polynomial) (ps : List Pivot) (a : Row) → AreRowsOf (reduced_by m) es ps → IsRow (reduced_by m) es a → OnSome (IsRow (reduced_by m) es) (row_by m es ps a)
row_by_row m ring es [] a h j = j
row_by_row m ring es (p ∷ ps) a h j =
    let r = reduced_by m in
    let P = IsRow r es in
    let after = row_less r a p in
    let wide = are_wide m es 0 after.cofactors in
    on_if (OnSome P) (unsigned_abs (coefficient a.poly (leading p.row.poly)) == 0) (row_by m es ps a) (if wide then None else row_by m es ps after)
    (λ _. row_by_row m ring es ps a h.1 j)
    (λ _. on_if (OnSome P) wide None (row_by m es ps after) (λ _. tt) (λ _. row_by_row m ring es ps after h.1 (less_row r ring es a p j h.0)))

keep_rows : (m : Option ℕ) (es : List Polynomial) (a : Row) (f : Polynomial) (rows : Rows) → AreRowsOf (reduced_by m) es rows.kept → IsRow (reduced_by m) es a → AreRowsOf (reduced_by m) es (keep m a f rows).kept
keep_rows m es a [] rows h j = h
keep_rows m es a (t ∷ f) rows h j = by (inverse_of m t.1) where
  by : (o : Option ℤ) → AreRowsOf (reduced_by m) es (keep_by a t.1 o rows).kept
  by None = h
  by (Some i) = all_more (λ p. IsRow (reduced_by m) es p.row) rows.kept (record { row = a; inverse = i }) h j

pub add_rows : (m : Option ℕ) → IsReduction (reduced_by m) → (es : List Polynomial) (a : Row) (rows : Rows) → AreRowsOf (reduced_by m) es rows.kept → IsRow (reduced_by m) es a → AreRowsOf (reduced_by m) es (add_row m es a rows).kept
add_rows m ring es a rows h j =
    by (row_by m es (by_leading rows.kept) a) (row_by_row m ring es (by_leading rows.kept) a (all_sorted (λ p. IsRow (reduced_by m) es p.row) rows.kept h) j) where
      by : (o : Option Row) → OnSome (IsRow (reduced_by m) es) o → AreRowsOf (reduced_by m) es (add_reduced m a.place o rows).kept
      by None k = h
      by (Some b) k = keep_rows m es b b.poly rows h k

-- ---- products

inner_times : (r : ℤ → ℤ) (es : List Polynomial) (φ : Monomial → ℤ) (t : Monomial) (k : ℕ) (n : Monomial) → IsPolynomial r (equation_at es k) → IsMonomial t → IsMonomial n → inner es φ k (times t n) ≡ inner es (λ m. φ (times t m)) k n
inner_times r es φ t k n h i j =
    weigh_alike_on r (λ m. φ (times (times t n) m)) (λ m. φ (times t (times n m))) (equation_at es k) h (λ m x. ap φ (times_assoc t n m i j x))

times_heavy : (r : ℤ → ℤ) → IsReduction r → (es : List Polynomial) (φ : Monomial → ℤ) (t : Term) (cs : List (ℕ × Polynomial)) → AllByRecursion (IsPolynomial r) es → IsMonomial t.0 → AreMade r (length es) cs → r (heavy es φ (scaled_cofactors r t cs)) ≡ r (t.1 *ℤ heavy es (λ m. φ (times t.0 m)) cs)
times_heavy r ring es φ t [] h i j = ap r (sym (int_mul_zero t.1))
times_heavy r ring es φ t (c ∷ cs) h i j =
    let ψ : Monomial → ℤ = λ m. φ (times t.0 m) in
    let w = weigh (inner es ψ c.0) c.1 in
    ap r (front_heavy es φ c.0 (scaled r t c.1) (scaled_cofactors r t cs))
    ∙ two_sums r ring (weigh (inner es φ c.0) (scaled r t c.1)) (t.1 *ℤ w) (heavy es φ (scaled_cofactors r t cs)) (t.1 *ℤ heavy es ψ cs)
    (weigh_scaled r ring (inner es φ c.0) t c.1
    ∙ ap (λ x. r (t.1 *ℤ x)) (weigh_alike_on r (λ n. inner es φ c.0 (times t.0 n)) (inner es ψ c.0) c.1 j.0.1 (λ n x. inner_times r es φ t.0 c.0 n (equation_over r es c.0 h) i x)))
    (times_heavy r ring es φ t cs h i j.1)
    ∙ ap r (sym (int_mul_add t.1 w (heavy es ψ cs)))

pub multiplied_row : (r : ℤ → ℤ) → IsReduction r → (es : List Polynomial) (n : Monomial) (a : Row) → AllByRecursion (IsPolynomial r) es → IsMonomial n → IsRow r es a → IsRow r es (multiplied r n a)
multiplied_row r ring es n a h i j = record {
  made = scaled_made r ring (length es) (n, r (pos 1)) a.cofactors i j.made;
  sum = λ φ.
      let ψ : Monomial → ℤ = λ m. φ (times n m) in
      weigh_scaled r ring φ (n, r (pos 1)) a.poly
      ∙ ring.products (weigh ψ a.poly) (heavy es ψ a.cofactors) (r (pos 1)) (j.sum ψ)
      ∙ sym (times_heavy r ring es φ (n, r (pos 1)) a.cofactors h i j.made);
}
