-- Sums of lists of cofactors from the least number on.
use Rattle.std.proofs.Common.{◌≡◌, ℕ, suc, ◌<◌, refl, sym, ◌∙◌, ap, subst, arith, Bool, true, false, ◌||◌, List, [], ◌∷◌, ◌++◌, ℤ, Option, Ordering, Less, Equal, Greater}
use Rattle.std.specs.Ordering.{nat_cmp, MatchOrdering}
use Rattle.std.proofs.lemmas.Cmp.{ranked}
use Rattle.tcl_ring.specs.Reduction.{IsReduction}
use Rattle.tcl_poly.specs.Polynomial.{Term, Polynomial, IsPolynomial, sum_of, scaled, has_wide}
use Rattle.tcl_poly.proofs.RingLaws.{sum_nothing}
use Rattle.tcl_reduce.specs.CofactorSum.{front_cofactor, put_cofactor_at, put_cofactor, sum_cofactors, scaled_cofactors}
use Rattle.tcl_pivots.specs.CofactorLists.{AreOrdered, any_wide}

abbrev pub Numbered : Type 0
Numbered = List (ℕ × Polynomial)

-- all numbers are above k
abbrev pub AreAbove : ℕ → Numbered → Type 0
AreAbove k [] = Unit {0}
AreAbove k (c ∷ cs) = (k < c.0) × AreAbove k cs

pub ordered_above : (r : ℤ → ℤ) (k least : ℕ) (cs : Numbered) → k < least → AreOrdered r least cs → AreAbove k cs
ordered_above r k least [] h i = tt
ordered_above r k least (c ∷ cs) h i = (omega (arith, h, i.0), ordered_above r k (suc c.0) cs (omega (arith, h, i.0)) i.2)

front_above : (k n : ℕ) (p : Polynomial) (cs : Numbered) → k < n → AreAbove k cs → AreAbove k (front_cofactor n p cs)
front_above k n [] cs h i = i
front_above k n (t ∷ p) cs h i = (h, i)

put_at_above : (r : ℤ → ℤ) (k : ℕ) (o : Ordering) (c d : ℕ × Polynomial) (cs further : Numbered) → k < c.0 → k < d.0 → AreAbove k cs → AreAbove k further → AreAbove k (put_cofactor_at r o c d cs further)
put_at_above r k Less c d cs further h i j f = front_above k c.0 c.1 (d ∷ cs) h (i, j)
put_at_above r k Equal c d cs further h i j f = front_above k d.0 (sum_of r c.1 d.1) cs i j
put_at_above r k Greater c d cs further h i j f = (i, f)

put_keeps : (r : ℤ → ℤ) (k : ℕ) (c : ℕ × Polynomial) (cs : Numbered) → k < c.0 → AreAbove k cs → AreAbove k (put_cofactor r c cs)
put_keeps r k c [] h i = front_above k c.0 c.1 [] h tt
put_keeps r k c (d ∷ cs) h i = put_at_above r k (nat_cmp c.0 d.0) c d cs (put_cofactor r c cs) h i.0 i.1 (put_keeps r k c cs h i.1)

sum_keeps : (r : ℤ → ℤ) (k : ℕ) (cs ds : Numbered) → AreAbove k cs → AreAbove k ds → AreAbove k (sum_cofactors r cs ds)
sum_keeps r k [] ds h i = i
sum_keeps r k (c ∷ cs) ds h i = put_keeps r k c (sum_cofactors r cs ds) h.0 (sum_keeps r k cs ds h.1 i)

scaled_keeps : (r : ℤ → ℤ) (k : ℕ) (t : Term) (cs : Numbered) → AreAbove k cs → AreAbove k (scaled_cofactors r t cs)
scaled_keeps r k t [] h = tt
scaled_keeps r k t (c ∷ cs) h = front_above k c.0 (scaled r t c.1) (scaled_cofactors r t cs) h.0 (scaled_keeps r k t cs h.1)

-- ---- one cofactor put into a list

at_less : (r : ℤ → ℤ) (o : Ordering) (c d : ℕ × Polynomial) (cs further : Numbered) → MatchOrdering o (c.0 < d.0) (c.0 ≡ d.0) (d.0 < c.0) → c.0 < d.0 → put_cofactor_at r o c d cs further ≡ front_cofactor c.0 c.1 (d ∷ cs)
at_less r Less c d cs further s h = refl
at_less r Equal c d cs further s h = absurd (omega (arith, s, h))
at_less r Greater c d cs further s h = absurd (omega (arith, s, h))

at_equal : (r : ℤ → ℤ) (o : Ordering) (c d : ℕ × Polynomial) (cs further : Numbered) → MatchOrdering o (c.0 < d.0) (c.0 ≡ d.0) (d.0 < c.0) → c.0 ≡ d.0 → put_cofactor_at r o c d cs further ≡ front_cofactor d.0 (sum_of r c.1 d.1) cs
at_equal r Less c d cs further s h = absurd (omega (arith, s, h))
at_equal r Equal c d cs further s h = refl
at_equal r Greater c d cs further s h = absurd (omega (arith, s, h))

at_greater : (r : ℤ → ℤ) (o : Ordering) (c d : ℕ × Polynomial) (cs further : Numbered) → MatchOrdering o (c.0 < d.0) (c.0 ≡ d.0) (d.0 < c.0) → d.0 < c.0 → put_cofactor_at r o c d cs further ≡ d ∷ further
at_greater r Less c d cs further s h = absurd (omega (arith, s, h))
at_greater r Equal c d cs further s h = absurd (omega (arith, s, h))
at_greater r Greater c d cs further s h = refl

put_first : (r : ℤ → ℤ) (c : ℕ × Polynomial) (cs : Numbered) → AreAbove c.0 cs → put_cofactor r c cs ≡ front_cofactor c.0 c.1 cs
put_first r c [] h = refl
put_first r c (d ∷ cs) h = at_less r (nat_cmp c.0 d.0) c d cs (put_cofactor r c cs) (ranked c.0 d.0 (nat_cmp c.0 d.0) refl) h.0

put_later : (r : ℤ → ℤ) (c d : ℕ × Polynomial) (cs : Numbered) → d.0 < c.0 → put_cofactor r c (d ∷ cs) ≡ d ∷ put_cofactor r c cs
put_later r c d cs h = at_greater r (nat_cmp c.0 d.0) c d cs (put_cofactor r c cs) (ranked c.0 d.0 (nat_cmp c.0 d.0) refl) h

sum_later : (r : ℤ → ℤ) (cs : Numbered) (d : ℕ × Polynomial) (ds : Numbered) → AreAbove d.0 cs → sum_cofactors r cs (d ∷ ds) ≡ d ∷ sum_cofactors r cs ds
sum_later r [] d ds h = refl
sum_later r (c ∷ cs) d ds h = ap (put_cofactor r c) (sum_later r cs d ds h.1) ∙ put_later r c d (sum_cofactors r cs ds) h.0

-- ---- the first cofactor of a sum with a multiple

abbrev pub left_of : (ℤ → ℤ) → ℤ → Numbered → Numbered → Numbered
left_of r k a b = sum_cofactors r a (scaled_cofactors r ([], k) b)

pub left_first : (r : ℤ → ℤ) → IsReduction r → (k : ℤ) (c : ℕ × Polynomial) (a b : Numbered) → IsPolynomial r c.1 → AreAbove c.0 a → AreAbove c.0 b → left_of r k (c ∷ a) b ≡ front_cofactor c.0 (sum_of r c.1 (scaled r ([], k) [])) (left_of r k a b)
left_first r ring k c a b p h i =
    put_first r c (left_of r k a b) (sum_keeps r c.0 a (scaled_cofactors r ([], k) b) h (scaled_keeps r c.0 ([], k) b i))
    ∙ ap (λ q. front_cofactor c.0 q (left_of r k a b)) (sym (sum_nothing r ring c.1 p))

pub left_second : (r : ℤ → ℤ) (k : ℤ) (d : ℕ × Polynomial) (a b : Numbered) → AreAbove d.0 a → left_of r k a (d ∷ b) ≡ front_cofactor d.0 (sum_of r [] (scaled r ([], k) d.1)) (left_of r k a b)
left_second r k d a b h = by (scaled r ([], k) d.1) where
  by : (q : Polynomial) → sum_cofactors r a (front_cofactor d.0 q (scaled_cofactors r ([], k) b)) ≡ front_cofactor d.0 q (left_of r k a b)
  by [] = refl
  by (t ∷ q) = sum_later r a (d.0, t ∷ q) (scaled_cofactors r ([], k) b) h

pub left_both : (r : ℤ → ℤ) → IsReduction r → (k : ℤ) (c d : ℕ × Polynomial) (a b : Numbered) → IsPolynomial r c.1 → c.0 ≡ d.0 → AreAbove d.0 a → AreAbove d.0 b → left_of r k (c ∷ a) (d ∷ b) ≡ front_cofactor d.0 (sum_of r c.1 (scaled r ([], k) d.1)) (left_of r k a b)
left_both r ring k c d a b p e h i = by (scaled r ([], k) d.1) where
  rest : Numbered
  rest = scaled_cofactors r ([], k) b

  by : (q : Polynomial) → put_cofactor r c (sum_cofactors r a (front_cofactor d.0 q rest)) ≡ front_cofactor d.0 (sum_of r c.1 q) (sum_cofactors r a rest)
  by [] =
      let A : ℕ → Type 0 = λ n. AreAbove n (sum_cofactors r a rest) in
      put_first r c (sum_cofactors r a rest) (subst A (sym e) (sum_keeps r d.0 a rest h (scaled_keeps r d.0 ([], k) b i)))
      ∙ (let back = sym (sum_nothing r ring c.1 p) in λ j. front_cofactor (e j) (back j) (sum_cofactors r a rest))
  by (t ∷ q) =
      ap (put_cofactor r c) (sum_later r a (d.0, t ∷ q) rest h)
      ∙ at_equal r (nat_cmp c.0 d.0) c (d.0, t ∷ q) (sum_cofactors r a rest) (put_cofactor r c (sum_cofactors r a rest)) (ranked c.0 d.0 (nat_cmp c.0 d.0) refl) e

-- ---- what is done, followed by the rest

front_more : (k : ℕ) (p : Polynomial) (cs : Numbered) → front_cofactor k p cs ≡ front_cofactor k p [] ++ cs
front_more k [] cs = refl
front_more k (t ∷ p) cs = refl

join_assoc : (xs ys zs : Numbered) → (xs ++ ys) ++ zs ≡ xs ++ (ys ++ zs)
join_assoc [] ys zs = refl
join_assoc (x ∷ xs) ys zs = ap (λ ws. x ∷ ws) (join_assoc xs ys zs)

pub joined_front : (done after : Numbered) (k : ℕ) (p : Polynomial) (rest whole : Numbered) → after ≡ done ++ front_cofactor k p [] → whole ≡ front_cofactor k p rest → after ++ rest ≡ done ++ whole
joined_front done after k p rest whole e f =
    ap (λ z. z ++ rest) e ∙ join_assoc done (front_cofactor k p []) rest ∙ ap (λ z. done ++ z) (sym (front_more k p rest) ∙ sym f)

or_join : (w a b c : Bool) → (a ≡ false → b ≡ c) → (w || a) ≡ false → (w || b) ≡ c
or_join true a b c f n = absurd (clash n) where
  clash : true ≡ false → ⊥
  clash z = cc
or_join false a b c f n = f n

or_back : (w b : Bool) → b ≡ true → (w || b) ≡ true
or_back true b e = refl
or_back false b e = e

any_join : (m : Option ℕ) (xs ys : Numbered) (b : Bool) → any_wide m ys ≡ b → any_wide m xs ≡ false → any_wide m (xs ++ ys) ≡ b
any_join m [] ys b e h = e
any_join m (x ∷ xs) ys b e h = or_join (has_wide m x.1) (any_wide m xs) (any_wide m (xs ++ ys)) b (λ n. any_join m xs ys b e n) h

any_back : (m : Option ℕ) (xs ys : Numbered) → any_wide m ys ≡ true → any_wide m (xs ++ ys) ≡ true
any_back m [] ys e = e
any_back m (x ∷ xs) ys e = or_back (has_wide m x.1) (any_wide m (xs ++ ys)) (any_back m xs ys e)

front_wide : (m : Option ℕ) (k : ℕ) (p : Polynomial) (cs : Numbered) → has_wide m p ≡ true → any_wide m (front_cofactor k p cs) ≡ true
front_wide m k [] cs h = absurd (clash h) where
  clash : false ≡ true → ⊥
  clash z = cc
front_wide m k (t ∷ p) cs h = ap (λ w. w || any_wide m cs) h

front_narrow : (m : Option ℕ) (k : ℕ) (p : Polynomial) → has_wide m p ≡ false → any_wide m (front_cofactor k p []) ≡ false
front_narrow m k [] h = refl
front_narrow m k (t ∷ p) h = ap (λ w. w || false) h

pub wide_next : (m : Option ℕ) (done whole rest : Numbered) (k : ℕ) (p : Polynomial) → has_wide m p ≡ true → whole ≡ front_cofactor k p rest → any_wide m (done ++ whole) ≡ true
wide_next m done whole rest k p h e = ap (λ z. any_wide m (done ++ z)) e ∙ any_back m done (front_cofactor k p rest) (front_wide m k p rest h)

pub narrow_next : (m : Option ℕ) (done after : Numbered) (k : ℕ) (p : Polynomial) → has_wide m p ≡ false → after ≡ done ++ front_cofactor k p [] → any_wide m done ≡ false → any_wide m after ≡ false
narrow_next m done after k p h e d = ap (any_wide m) e ∙ any_join m done (front_cofactor k p []) false (front_narrow m k p h) d
