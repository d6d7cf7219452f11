-- The row of an equation is the sum of its cofactors times the equations, and is not wide.
use Rattle.std.proofs.Common.{◌≡◌, inl, inr, ℕ, zero, suc, ◌+◌, ◌*◌, ◌<◌, ◌≤◌, refl, sym, ◌∙◌, ap, subst, arith, Bool, true, false, ◌||◌, leb, List, [], ◌∷◌, ◌++◌, length, ℤ, pos, negsuc, ◌+ℤ◌, ◌*ℤ◌, unsigned_abs, Option, Some, None, Ordering, Less, Equal, Greater}
use Rattle.std.specs.Prelude.{nat_le}
use Rattle.std.specs.List.{AllByRecursion}
use Rattle.std.specs.Ordering.{nat_cmp, MatchOrdering}
use Rattle.std.proofs.lemmas.Cmp.{ranked}
use Rattle.std.proofs.lemmas.Bool.Decides.{nat_tests}
use Rattle.std.proofs.Math.Nat.{mul-le-mul_right}
use Rattle.tcl_num.proofs.IntegerRing.{int_add_zero, int_one_mul}
use Rattle.tcl_ring.specs.Reduction.{IsReduction, IsModulus, reduced_by, is_wide}
use Rattle.tcl_ring.proofs.Reductions.{is_reduction}
use Rattle.tcl_poly.specs.Monomial.{Monomial}
use Rattle.tcl_poly.specs.Polynomial.{Term, Polynomial, IsPolynomial, front, number_of, scaled, weigh, terms_of, norm_of, degree_of}
use Rattle.tcl_poly.specs.Combination.{equation_at, combination_of, weight_of, AreCofactors}
use Rattle.tcl_poly.proofs.Weights.{two_sums, right_sum, weigh_sum, weigh_front, reduced_weight}
use Rattle.tcl_poly.proofs.Canonical.{number_is}
use Rattle.tcl_poly.proofs.Norms.{narrower, norm_scaled}
use Rattle.tcl_poly.proofs.Degrees.{degree_within, within_degree, within_scaled}
use Rattle.tcl_poly.proofs.TermLists.{terms_itself}
use Rattle.tcl_reduce.specs.CofactorSum.{front_cofactor, put_cofactor_at, put_cofactor, scaled_cofactors, is_deep, are_wide}
use Rattle.tcl_reduce.specs.Reduction.{Definition, reduced_of}
use Rattle.tcl_reduce.specs.Reduction.Reduced.{Done}
use Rattle.tcl_reduce.specs.Remainder.{AreDefinitions, BeginsWith, RiseFrom, IsRemainder}
use Rattle.tcl_reduce.proofs.Remainders.{reductions_keep}
use Rattle.tcl_reduce.specs.Row.{row_of}
use Rattle.tcl_pivots.specs.RowState.{AreCounted, IsSound}
use Rattle.tcl_pivots.specs.CofactorLists.{AreOrdered}
use Rattle.tcl_pivots.proofs.Making.{heavy, inner, combination_heavy, put_heavy, scaled_heavy, put_made, scaled_made, IsRow}
use Rattle.tcl_pivots.proofs.Showing.{fit_made, taken}
use Rattle.tcl_pivots.proofs.Soundness.{row_sound, fit_ordered, scaled_ordered}
use Rattle.tcl_member.specs.Fit.{AreSome, AreNarrow}
use Rattle.tcl_member.proofs.Booleans.{neither, true_not_false}
use Rattle.tcl_member.proofs.Spending.{FitBeside, reduced_fit, reduced_below, reduced_some}

-- ---- the sum

one_weighs : (r : ℤ → ℤ) → IsReduction r → (es : List Polynomial) (φ : Monomial → ℤ) (k : ℕ) → r (weigh (inner es φ k) (number_of r (pos 1))) ≡ r (weigh φ (equation_at es k))
one_weighs r ring es φ k =
    let w = weigh φ (equation_at es k) in
    ap r (weigh_front (inner es φ k) [] (r (pos 1)) [] ∙ int_add_zero (r (pos 1) *ℤ w))
    ∙ reduced_weight r ring (pos 1) w
    ∙ ap r (int_one_mul w)

row_adds : (m : Option ℕ) → IsReduction (reduced_by m) → (es : List Polynomial) (number place : ℕ) (rest : Polynomial) (cs : List (ℕ × Polynomial)) → number < length es → IsRemainder m (λ n. n) es (equation_at es number) rest cs → IsRow (reduced_by m) es (row_of (reduced_by m) number place rest cs)
row_adds m ring es number place rest cs l h =
    let r = reduced_by m in
    let one = number_of r (pos 1) in
    let minus = scaled_cofactors r ([], negsuc 0) cs in
    let e = equation_at es number in
    record {
      made = put_made r ring (length es) (number, one) minus l (number_is r ring (pos 1)) (scaled_made r ring (length es) ([], negsuc 0) cs tt (fit_made m es cs h.fit));
      sum = λ φ.
          let all : r (weigh φ e) ≡ r (weigh φ rest +ℤ heavy es φ cs) =
          ap (λ p. r (weigh φ p)) h.kept
          ∙ weigh_sum r ring φ rest (combination_of r (λ n. n) es cs)
          ∙ right_sum r ring (weigh φ rest) (weigh φ (combination_of r (λ n. n) es cs)) (heavy es φ cs) (combination_heavy r ring es φ cs) in
          sym (put_heavy r ring es φ (number, one) minus
          ∙ two_sums r ring (weigh (inner es φ number) one) (weigh φ rest +ℤ heavy es φ cs) (heavy es φ minus) (negsuc 0 *ℤ heavy es φ cs) (one_weighs r ring es φ number ∙ all) (scaled_heavy r ring es φ (negsuc 0) cs)
          ∙ ap r (taken (weigh φ rest) (heavy es φ cs)));
    }

-- ---- the cofactor of the equation itself is the last

abbrev pub AreLess : ℕ → List (ℕ × Polynomial) → Type 0
AreLess n cs = AllByRecursion (λ c. c.0 < n) cs

pub rise_less : (least end n : ℕ) (cs : List (ℕ × Polynomial)) → end ≤ n → RiseFrom least end cs → AreLess n cs
rise_less least end n [] h i = tt
rise_less least end n (c ∷ cs) h i = (omega (arith, h, i.1), rise_less (suc c.0) end n cs h i.2)

front_less : (n k : ℕ) (p : Polynomial) (cs : List (ℕ × Polynomial)) → k < n → AreLess n cs → AreLess n (front_cofactor k p cs)
front_less n k [] cs h i = i
front_less n k (t ∷ p) cs h i = (h, i)

pub scaled_less : (r : ℤ → ℤ) (n : ℕ) (t : Term) (cs : List (ℕ × Polynomial)) → AreLess n cs → AreLess n (scaled_cofactors r t cs)
scaled_less r n t [] h = tt
scaled_less r n t (c ∷ cs) h = front_less n c.0 (scaled r t c.1) (scaled_cofactors r t cs) h.0 (scaled_less r n t cs h.1)

at_later : (r : ℤ → ℤ) (o : Ordering) (c d : ℕ × Polynomial) (cs further : List (ℕ × Polynomial)) → MatchOrdering o (c.0 < d.0) (c.0 ≡ d.0) (d.0 < c.0) → d.0 < c.0 → put_cofactor_at r o c d cs further ≡ d ∷ further
at_later r Less c d cs further s h = absurd (omega (arith, s, h))
at_later r Equal c d cs further s h = absurd (omega (arith, s, h))
at_later r Greater c d cs further s h = refl

pub put_last : (r : ℤ → ℤ) (c : ℕ × Polynomial) (cs : List (ℕ × Polynomial)) → AreLess c.0 cs → put_cofactor r c cs ≡ cs ++ front_cofactor c.0 c.1 []
put_last r c [] h = refl
put_last r c (d ∷ cs) h =
    at_later r (nat_cmp c.0 d.0) c d cs (put_cofactor r c cs) (ranked c.0 d.0 (nat_cmp c.0 d.0) refl) h.0
    ∙ ap (λ x. d ∷ x) (put_last r c cs h.1)

-- ---- its degrees

low : (n : ℕ) → n ≤ 1024 → leb 1025 n ≡ false
low n l = grind (arith, nat_tests)

pub front_shallow : (es : List Polynomial) (k : ℕ) (p : Polynomial) (cs : List (ℕ × Polynomial)) → degree_of p + degree_of (equation_at es k) ≤ 1024 → is_deep es cs ≡ false → is_deep es (front_cofactor k p cs) ≡ false
front_shallow es k [] cs h i = i
front_shallow es k (t ∷ p) cs h i = neither (nat_le 1025 (degree_of (t ∷ p) + degree_of (equation_at es k))) (is_deep es cs) (low (degree_of (t ∷ p) + degree_of (equation_at es k)) h) i

append_shallow : (es : List Polynomial) (cs ds : List (ℕ × Polynomial)) → is_deep es cs ≡ false → is_deep es ds ≡ false → is_deep es (cs ++ ds) ≡ false
append_shallow es [] ds h i = i
append_shallow es (c ∷ cs) ds h i =
    let b = nat_le 1025 (degree_of c.1 + degree_of (equation_at es c.0)) in
    neither b (is_deep es (cs ++ ds)) (left b (is_deep es cs) h) (append_shallow es cs ds (right b (is_deep es cs) h) i) where
      left : (a b : Bool) → (a || b) ≡ false → a ≡ false
      left true b e = e
      left false b e = refl

      right : (a b : Bool) → (a || b) ≡ false → b ≡ false
      right true b e = absurd (true_not_false true refl e)
      right false b e = e

opposites_shallow : (m : Option ℕ) → IsReduction (reduced_by m) → (es : List Polynomial) (cs : List (ℕ × Polynomial)) → AreCofactors m (λ n. n) es cs → is_deep es (scaled_cofactors (reduced_by m) ([], negsuc 0) cs) ≡ false
opposites_shallow m ring es [] h = refl
opposites_shallow m ring es (c ∷ cs) h =
    let r = reduced_by m in
    let over : IsPolynomial r c.1 = subst (IsPolynomial r) (terms_itself c.1) h.1 in
    let degree : degree_of (scaled r ([], negsuc 0) c.1) ≤ 0 + degree_of c.1 =
    within_degree (0 + degree_of c.1) (scaled r ([], negsuc 0) c.1) (within_scaled r (degree_of c.1) ([], negsuc 0) c.1 (degree_within r c.1 over)) in
    front_shallow es c.0 (scaled r ([], negsuc 0) c.1) (scaled_cofactors r ([], negsuc 0) cs) (omega (arith, degree, h.2)) (opposites_shallow m ring es cs h.3)

number_degree : (c : ℤ) → degree_of (front [] c []) ≡ 0
number_degree (pos zero) = refl
number_degree (pos (suc n)) = refl
number_degree (negsuc n) = refl

-- ---- its norms

front_weight : (es : List Polynomial) (k : ℕ) (p : Polynomial) (cs : List (ℕ × Polynomial)) → weight_of (λ n. n) es (front_cofactor k p cs) ≡ norm_of p * norm_of (equation_at es k) + weight_of (λ n. n) es cs
front_weight es k [] cs = omega arith
front_weight es k (t ∷ p) cs =
    let own = ap (λ z. norm_of z) (terms_itself (t ∷ p)) in
    let other = ap (λ z. norm_of z) (terms_itself (equation_at es k)) in
    λ i. own i * other i + weight_of (λ n. n) es cs

append_weight : (es : List Polynomial) (cs ds : List (ℕ × Polynomial)) → weight_of (λ n. n) es (cs ++ ds) ≡ weight_of (λ n. n) es cs + weight_of (λ n. n) es ds
append_weight es [] ds = omega arith
append_weight es (c ∷ cs) ds = omega (arith, append_weight es cs ds)

-- a term whose coefficient is 1 or -1 makes no sum greater
pub scaled_weight : (es : List Polynomial) (t : Term) (cs : List (ℕ × Polynomial)) → unsigned_abs t.1 ≤ 1 → weight_of (λ n. n) es (scaled_cofactors (reduced_by None) t cs) ≤ weight_of (λ n. n) es cs
scaled_weight es t [] h = omega arith
scaled_weight es t (c ∷ cs) h =
    let e = norm_of (equation_at es c.0) in
    let s = scaled (reduced_by None) t c.1 in
    let own = ap (λ z. norm_of z) (terms_itself c.1) in
    let other = ap (λ z. norm_of z) (terms_itself (equation_at es c.0)) in
    let whole : norm_of (terms_of (λ n. n) c.1) * norm_of (terms_of (λ n. n) (equation_at es c.0)) ≡ norm_of c.1 * e = λ k. own k * other k in
    let least : unsigned_abs t.1 * norm_of c.1 ≤ 1 * norm_of c.1 = mul-le-mul_right (norm_of c.1) h in
    let less : norm_of s ≤ norm_of c.1 = omega (arith, norm_scaled t c.1, least) in
    let product : norm_of s * e ≤ norm_of c.1 * e = mul-le-mul_right e less in
    omega (arith, front_weight es c.0 s (scaled_cofactors (reduced_by None) t cs), whole, product, scaled_weight es t cs h)

narrow_at : (m : Option ℕ) (es : List Polynomial) (k : ℕ) → AreNarrow m es → is_wide m 0 ≡ false → is_wide m (norm_of (equation_at es k)) ≡ false
narrow_at m [] zero h n = n
narrow_at m [] (suc k) h n = n
narrow_at m (e ∷ es) zero h n = h.0
narrow_at m (e ∷ es) (suc k) h n = narrow_at m es k h.1 n

nothing_narrow : (m : Option ℕ) → is_wide m 0 ≡ false
nothing_narrow None = refl
nothing_narrow (Some m) = refl

beside_narrow : (m : Option ℕ) (es : List Polynomial) (norm : ℕ) (cs : List (ℕ × Polynomial)) → is_wide m norm ≡ false → FitBeside m es norm cs → is_wide m (norm + weight_of (λ n. n) es cs) ≡ false
beside_narrow m es norm cs n (inl w) = absurd (true_not_false (is_wide m norm) w n)
beside_narrow m es norm cs n (inr h) = h

row_narrow : (m : Option ℕ) (es : List Polynomial) (number : ℕ) (cs : List (ℕ × Polynomial)) → is_wide m (norm_of (equation_at es number) + weight_of (λ n. n) es cs) ≡ false → is_wide m (0 + weight_of (λ n. n) es (scaled_cofactors (reduced_by m) ([], negsuc 0) cs ++ front_cofactor number (number_of (reduced_by m) (pos 1)) [])) ≡ false
row_narrow (Some m) es number cs h = refl
row_narrow None es number cs h =
    let r = reduced_by None in
    let one = number_of r (pos 1) in
    let minus = scaled_cofactors r ([], negsuc 0) cs in
    let own : norm_of one * norm_of (equation_at es number) ≡ norm_of (equation_at es number) = omega arith in
    narrower None (norm_of (equation_at es number) + weight_of (λ n. n) es cs) (0 + weight_of (λ n. n) es (minus ++ front_cofactor number one [])) h
    (omega (arith, append_weight es minus (front_cofactor number one []), front_weight es number one [], scaled_weight es ([], negsuc 0) cs (omega arith), own))

-- ---- its numbers

append_ordered : (r : ℤ → ℤ) (least n : ℕ) (p : Polynomial) (cs : List (ℕ × Polynomial)) → least ≤ n → IsPolynomial r p → AreLess n cs → AreOrdered r least cs → AreOrdered r least (cs ++ front_cofactor n p [])
append_ordered r least n [] [] l h i j = tt
append_ordered r least n (t ∷ p) [] l h i j = (l, h, tt)
append_ordered r least n p (c ∷ cs) l h i j = (j.0, j.1, append_ordered r (suc c.0) n p cs (omega (arith, i.0)) h i.1 j.2)

counted_less : (es : List Polynomial) (n : ℕ) (cs : List (ℕ × Polynomial)) → AreSome None es n → AreLess n cs → AreCounted None es cs
counted_less es n [] h i = tt
counted_less es n (c ∷ cs) h i = (h c.0 i.0, counted_less es n cs h i.1)

pub some_counted : (m : Option ℕ) (es : List Polynomial) (n : ℕ) (cs : List (ℕ × Polynomial)) → AreSome m es n → AreLess n cs → AreCounted m es cs
some_counted None es n cs h i = counted_less es n cs h i
some_counted (Some m) es n cs h i = tt

append_counted : (es : List Polynomial) (n : ℕ) (p : Polynomial) (cs : List (ℕ × Polynomial)) → (equation_at es n ≡ [] → ⊥) → AreCounted None es cs → AreCounted None es (cs ++ front_cofactor n p [])
append_counted es n [] [] h i = tt
append_counted es n (t ∷ p) [] h i = (h, tt)
append_counted es n p (c ∷ cs) h i = (i.0, append_counted es n p cs h i.1)

row_counted : (m : Option ℕ) (es : List Polynomial) (n : ℕ) (p : Polynomial) (cs : List (ℕ × Polynomial)) → (equation_at es n ≡ [] → ⊥) → AreCounted m es cs → AreCounted m es (cs ++ front_cofactor n p [])
row_counted None es n p cs h i = append_counted es n p cs h i
row_counted (Some m) es n p cs h i = tt

-- ---- all of it

pub row_is_sound : (m : Option ℕ) → IsModulus m → (es : List Polynomial) (defs : List Definition) (number place : ℕ) (rest : Polynomial) (cs : List (ℕ × Polynomial)) (spent : ℕ) → AllByRecursion (IsPolynomial (reduced_by m)) es → AreDefinitions (reduced_by m) defs → BeginsWith m (λ n. n) defs es → AreNarrow m es → AreSome m es (length defs) → number < length es → length defs ≤ number → IsPolynomial (reduced_by m) (equation_at es number) → degree_of (equation_at es number) ≤ 1024 → IsPolynomial (reduced_by m) rest → reduced_of m defs (equation_at es number) ≡ Done rest cs spent → (rest ≡ [] → ⊥) → IsSound m es (row_of (reduced_by m) number place rest cs)
row_is_sound m modulus es defs number place rest cs spent over d begins narrow some l after h deg rest_is is left =
    let r = reduced_by m in
    let ring = is_reduction m modulus in
    let e = equation_at es number in
    let one = number_of r (pos 1) in
    let minus = scaled_cofactors r ([], negsuc 0) cs in
    let a = row_of r number place rest cs in
    let keeps = reductions_keep m defs e rest cs spent es modulus d h deg begins is in
    let less : AreLess number cs = rise_less 0 (length defs) number cs after (reduced_below m modulus es defs e rest cs spent d begins h deg is) in
    let less_defs : AreLess (length defs) cs = rise_less 0 (length defs) (length defs) cs (omega arith) (reduced_below m modulus es defs e rest cs spent d begins h deg is) in
    let minus_less = scaled_less r number ([], negsuc 0) cs less in
    let last : a.cofactors ≡ minus ++ front_cofactor number one [] = put_last r (number, one) minus minus_less in
    let shallow : is_deep es (minus ++ front_cofactor number one []) ≡ false =
    append_shallow es minus (front_cofactor number one []) (opposites_shallow m ring es cs keeps.fit)
    (front_shallow es number one [] (omega (arith, number_degree (r (pos 1)), deg)) refl) in
    let light = row_narrow m es number cs (beside_narrow m es (norm_of e) cs (narrow_at m es number narrow (nothing_narrow m)) (reduced_fit m es defs e rest cs spent begins is)) in
    let ordered : AreOrdered r 0 (minus ++ front_cofactor number one []) =
    append_ordered r 0 number one minus (omega arith) (number_is r ring (pos 1)) minus_less (scaled_ordered r ring 0 (negsuc 0) cs (fit_ordered m es 0 (length es) cs keeps.fit keeps.rise)) in
    let counted : AreCounted m es (minus ++ front_cofactor number one []) =
    row_counted m es number one minus (reduced_some m defs e rest cs spent is left) (some_counted m es (length defs) minus some (scaled_less r (length defs) ([], negsuc 0) cs less_defs)) in
    row_sound m ring es 0 a over rest_is (row_adds m ring es number place rest cs l keeps)
    (subst (AreOrdered r 0) (sym last) ordered)
    (subst (AreCounted m es) (sym last) counted)
    (ap (are_wide m es 0) last ∙ neither (is_deep es (minus ++ front_cofactor number one [])) (is_wide m (0 + weight_of (λ n. n) es (minus ++ front_cofactor number one []))) shallow light)
