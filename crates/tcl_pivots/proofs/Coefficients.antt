-- The coefficient of a monomial by places of the terms.
use Rattle.std.proofs.Common.{◌≡◌, ℕ, zero, suc, ◌+◌, ◌<◌, ◌≤◌, refl, sym, ◌∙◌, ap, subst, arith, List, [], ◌∷◌, length, get_or, ℤ, pos, ◌+ℤ◌, ◌*ℤ◌, Ordering, Less, Equal, Greater}
use Rattle.std.specs.Ordering.{nat_cmp, MatchOrdering}
use Rattle.std.proofs.lemmas.Cmp.{ranked}
use Rattle.tcl_num.proofs.IntegerRing.{int_mul_zero, int_zero_add}
use Rattle.tcl_poly.specs.Monomial.{Monomial, IsMonomial, IsLess, order}
use Rattle.tcl_poly.specs.Polynomial.{Polynomial, IsUnder, IsPolynomial, terms_of, coefficient, one_at}
use Rattle.tcl_poly.proofs.MonomialLaws.{less_chain, order_same, order_less, order_greater}
use Rattle.tcl_poly.proofs.TermMerging.{less_from, greater_from}
use Rattle.tcl_pivots.specs.Lookup.{AreGreater}
use Rattle.tcl_poly.proofs.Canonical.{under_chain, no_coefficient, first_coefficient}

-- the monomials from place k on are less
abbrev pub AreLess : {E : Type 0} → List (Monomial × E) → Monomial → ℕ → Type 0
AreLess {E = E} p m k = (j : ℕ) → k ≤ j → j < length p → (d : Monomial × E) → order (get_or p j d).0 m ≡ Less

-- a later term is less
under_at : {E : Type 0} (value : E → ℤ) (n : Monomial) (p : List (Monomial × E)) (k : ℕ) (d : Monomial × E) → k < length p → IsUnder n (terms_of value p) → IsLess (get_or p k d).0 n
under_at value n [] k d h i = absurd (omega (arith, h))
under_at value n (t ∷ p) zero d h i = i.0
under_at value n (t ∷ p) (suc k) d h i = under_at value n p k d (omega (arith, h)) i.1

pub later : {E : Type 0} (r : ℤ → ℤ) (value : E → ℤ) (p : List (Monomial × E)) (j k : ℕ) (d : Monomial × E) → j < k → k < length p → IsPolynomial r (terms_of value p) → IsLess (get_or p k d).0 (get_or p j d).0
later r value [] j k d h l i = absurd (omega (arith, l))
later r value (t ∷ p) zero zero d h l i = absurd (omega (arith, h))
later r value (t ∷ p) zero (suc k) d h l i = under_at value t.0 p k d (omega (arith, l)) i.3
later r value (t ∷ p) (suc j) zero d h l i = absurd (omega (arith, h))
later r value (t ∷ p) (suc j) (suc k) d h l i = later r value p j k d (omega (arith, h)) (omega (arith, l)) i.4

pub monomial_at : {E : Type 0} (r : ℤ → ℤ) (value : E → ℤ) (p : List (Monomial × E)) (k : ℕ) (d : Monomial × E) → k < length p → IsPolynomial r (terms_of value p) → IsMonomial (get_or p k d).0
monomial_at r value [] k d h i = absurd (omega (arith, h))
monomial_at r value (t ∷ p) zero d h i = i.0
monomial_at r value (t ∷ p) (suc k) d h i = monomial_at r value p k d (omega (arith, h)) i.4

same_place : {E : Type 0} (p : List (Monomial × E)) (k : ℕ) (s d : Monomial × E) → k < length p → get_or p k s ≡ get_or p k d
same_place [] k s d h = absurd (omega (arith, h))
same_place (t ∷ p) zero s d h = refl
same_place (t ∷ p) (suc k) s d h = same_place p k s d (omega (arith, h))

-- what holds below k and at k
pub by_place : (P : ℕ → Type 0) (j k : ℕ) → (j < k → P j) → (j ≡ k → P j) → (k < j → P j) → P j
by_place P j k f g h = at (nat_cmp j k) (ranked j k (nat_cmp j k) refl) where
  at : (o : Ordering) → MatchOrdering o (j < k) (j ≡ k) (k < j) → P j
  at Less s = f s
  at Equal s = g s
  at Greater s = h s

here : {E : Type 0} (p : List (Monomial × E)) (m : Monomial) (k : ℕ) (s d : Monomial × E) (o : Ordering) → s ≡ get_or p k s → k < length p → o ≡ order s.0 m → order (get_or p k d).0 m ≡ o
here p m k s d o e l g = ap (λ x. order x.0 m) (sym (e ∙ same_place p k s d l)) ∙ sym g

-- the terms before one that is greater, and those after one that is less
pub more_greater : {E : Type 0} (r : ℤ → ℤ) (value : E → ℤ) (p : List (Monomial × E)) (m : Monomial) (k : ℕ) (s : Monomial × E) → s ≡ get_or p k s → k < length p → IsPolynomial r (terms_of value p) → IsMonomial m → Greater ≡ order s.0 m → AreGreater p m (k + 1)
more_greater r value p m k s e l h i g j b d =
    by_place (λ n. order (get_or p j d).0 m ≡ Greater) j k
    (λ below.
    let own : IsMonomial (get_or p k d).0 = monomial_at r value p k d l h in
    let above : IsLess m (get_or p k d).0 = greater_from (get_or p k d).0 m own i (sym (here p m k s d Greater e l g)) in
    order_greater (get_or p j d).0 m (monomial_at r value p j d (omega (arith, below, l)) h) i
    (less_chain m (get_or p k d).0 (get_or p j d).0 above (later r value p j k d below l h)))
    (λ same. ap (λ n. order (get_or p n d).0 m) same ∙ here p m k s d Greater e l g)
    (λ above. absurd (omega (arith, above, b)))

pub more_less : {E : Type 0} (r : ℤ → ℤ) (value : E → ℤ) (p : List (Monomial × E)) (m : Monomial) (k : ℕ) (s : Monomial × E) → s ≡ get_or p k s → k < length p → IsPolynomial r (terms_of value p) → IsMonomial m → Less ≡ order s.0 m → AreLess p m k
more_less r value p m k s e l h i g j b t d =
    by_place (λ n. order (get_or p j d).0 m ≡ Less) j k
    (λ below. absurd (omega (arith, below, b)))
    (λ same. ap (λ n. order (get_or p n d).0 m) same ∙ here p m k s d Less e l g)
    (λ above.
    let own : IsMonomial (get_or p k d).0 = monomial_at r value p k d l h in
    let under : IsLess (get_or p k d).0 m = less_from (get_or p k d).0 m own i (sym (here p m k s d Less e l g)) in
    order_less (get_or p j d).0 m (monomial_at r value p j d t h) i
    (less_chain (get_or p j d).0 (get_or p k d).0 m (later r value p k j d above t h) under))

-- ---- the coefficient

passed : (t : Monomial × ℤ) (p : Polynomial) (m : Monomial) → order t.0 m ≡ Greater → coefficient (t ∷ p) m ≡ coefficient p m
passed t p m e =
    ap (λ o. t.1 *ℤ one_at o +ℤ coefficient p m) e ∙ ap (λ x. x +ℤ coefficient p m) (int_mul_zero t.1) ∙ int_zero_add (coefficient p m)

-- where all terms before k are greater, and the others less, the monomial does not occur
pub absent : {E : Type 0} (r : ℤ → ℤ) (value : E → ℤ) (p : List (Monomial × E)) (m : Monomial) (k : ℕ) → IsPolynomial r (terms_of value p) → IsMonomial m → AreGreater p m k → AreLess p m k → coefficient (terms_of value p) m ≡ pos 0
absent r value [] m k h i g l = refl
absent r value (t ∷ p) m zero h i g l =
    let less = less_from t.0 m h.0 i (sym (l 0 (omega arith) (omega arith) t)) in
    no_coefficient m (terms_of value (t ∷ p)) (less, under_chain t.0 m (terms_of value p) less h.3)
absent r value (t ∷ p) m (suc k) h i g l =
    passed (t.0, value t.1) (terms_of value p) m (g 0 (omega arith) t)
    ∙ absent r value p m k h.4 i (λ j b d. g (suc j) (omega (arith, b)) d) (λ j b s d. l (suc j) (omega (arith, b)) (omega (arith, s)) d)

-- the coefficient of the term at k
pub present : {E : Type 0} (r : ℤ → ℤ) (value : E → ℤ) (p : List (Monomial × E)) (k : ℕ) (d : Monomial × E) → k < length p → IsPolynomial r (terms_of value p) → coefficient (terms_of value p) (get_or p k d).0 ≡ value (get_or p k d).1
present r value [] k d l h = absurd (omega (arith, l))
present r value (t ∷ p) zero d l h = first_coefficient r (t.0, value t.1) (terms_of value p) h
present r value (t ∷ p) (suc k) d l h =
    let n = (get_or p k d).0 in
    passed (t.0, value t.1) (terms_of value p) n (order_greater t.0 n h.0 (monomial_at r value p k d (omega (arith, l)) h.4) (under_at value t.0 p k d (omega (arith, l)) h.3))
    ∙ present r value p k d (omega (arith, l)) h.4

some_at : {E : Type 0} (r : ℤ → ℤ) (value : E → ℤ) (p : List (Monomial × E)) (k : ℕ) (d : Monomial × E) → k < length p → IsPolynomial r (terms_of value p) → value (get_or p k d).1 ≡ pos 0 → ⊥
some_at r value [] k d l h e = absurd (omega (arith, l))
some_at r value (t ∷ p) zero d l h e = h.1 e
some_at r value (t ∷ p) (suc k) d l h e = some_at r value p k d (omega (arith, l)) h.4 e

-- a term that was read has the coefficient of its monomial, which is not 0
pub read_coefficient : {E : Type 0} (r : ℤ → ℤ) (value : E → ℤ) (p : List (Monomial × E)) (m : Monomial) (k : ℕ) (s : Monomial × E) → s ≡ get_or p k s → k < length p → IsPolynomial r (terms_of value p) → Equal ≡ order s.0 m → (value s.1 ≡ coefficient (terms_of value p) m) × (value s.1 ≡ pos 0 → ⊥)
read_coefficient r value p m k s e l h g =
    let same : (get_or p k s).0 ≡ m = ap (λ x. x.0) (sym e) ∙ order_same s.0 m (sym g) in (
      ap (λ x. value x.1) e ∙ sym (present r value p k s l h) ∙ ap (coefficient (terms_of value p)) same,
      λ z. some_at r value p k s l h (ap (λ x. value x.1) (sym e) ∙ z),
    )

pub over_list : {E : Type 0} (r : ℤ → ℤ) (value : E → ℤ) (xs ys : List (Monomial × E)) → xs ≡ ys → IsPolynomial r (terms_of value ys) → IsPolynomial r (terms_of value xs)
over_list r value xs ys e h = let P : List (Monomial × _) → Type 0 = λ z. IsPolynomial r (terms_of value z) in subst P (sym e) h
