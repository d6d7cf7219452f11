-- Two canonical lists agree in front up to their greatest difference.
use Rattle.std.proofs.Common.{◌≡◌, ℕ, zero, suc, ◌+◌, ◌<◌, ◌≤◌, refl, sym, ◌∙◌, ap, subst, arith, List, [], ◌∷◌, length, drop, get_or, Ordering, Less, Equal, Greater, ℤ, pos, ◌+ℤ◌, ◌*ℤ◌}
use Rattle.std.proofs.lemmas.Int.{ints}
use Rattle.tcl_poly.specs.Monomial.{Monomial, IsMonomial, IsLess, order}
use Rattle.tcl_poly.specs.Polynomial.{Term, Polynomial, IsUnder, IsPolynomial, terms_of, coefficient, one_at}
use Rattle.tcl_poly.proofs.MonomialLaws.{order_says, order_same, OrderSays, less_self}
use Rattle.tcl_poly.proofs.Canonical.{no_coefficient, first_coefficient, under_chain}
use Rattle.tcl_poly.proofs.FactorLists.{past_end}
use Rattle.tcl_poly.proofs.TermLists.{terms_at, polynomial_from}
use Rattle.tcl_cofactor.specs.Comparison.{IsGreatestDifference}

-- the order as a fact
less_from : (m n : Monomial) → IsMonomial m → IsMonomial n → Less ≡ order m n → IsLess m n
less_from m n i j e = let P : Ordering → Type 0 = λ o. OrderSays o m n in subst P (sym e) (order_says m n i j)

greater_from : (m n : Monomial) → IsMonomial m → IsMonomial n → Greater ≡ order m n → IsLess n m
greater_from m n i j e = let P : Ordering → Type 0 = λ o. OrderSays o m n in subst P (sym e) (order_says m n i j)

-- a term that only one of them has, above all others
pub differs_first : (r : ℤ → ℤ) (t : Term) (p q : Polynomial) → IsPolynomial r (t ∷ p) → IsUnder t.0 q → IsGreatestDifference (t ∷ p) q t.0
differs_first r t p q h u = (
  λ e. h.1 (sym (first_coefficient r t p h) ∙ e ∙ no_coefficient t.0 q u),
  λ n less. no_coefficient n (t ∷ p) (less, under_chain t.0 n p less h.3) ∙ sym (no_coefficient n q (under_chain t.0 n q less u)),
)

pub differs_turned : (p q : Polynomial) (m : Monomial) → IsGreatestDifference p q m → IsGreatestDifference q p m
differs_turned p q m d = (λ e. d.0 (sym e), λ n less. sym (d.1 n less))

-- one monomial with different coefficients
pub differs_coefficient : (r : ℤ → ℤ) (t u : Term) (p q : Polynomial) → IsPolynomial r (t ∷ p) → IsPolynomial r (u ∷ q) → t.0 ≡ u.0 → (t.1 ≡ u.1 → ⊥) → IsGreatestDifference (t ∷ p) (u ∷ q) t.0
differs_coefficient r t u p q h j e n =
    let P : Monomial → Type 0 = λ m. IsUnder m q in (
      λ f. n (sym (first_coefficient r t p h) ∙ f ∙ ap (coefficient (u ∷ q)) e ∙ first_coefficient r u q j),
      λ k less. no_coefficient k (t ∷ p) (less, under_chain t.0 k p less h.3)
          ∙ sym (no_coefficient k (u ∷ q) (let L : Monomial → Type 0 = λ m. IsLess m k in subst L e less, under_chain u.0 k q (let L : Monomial → Type 0 = λ m. IsLess m k in subst L e less) j.3)),
    )

-- equal first terms change no coefficient's comparison
pub differs_further : (t u : Term) (p q : Polynomial) (m : Monomial) → t.0 ≡ u.0 → t.1 ≡ u.1 → IsGreatestDifference p q m → IsGreatestDifference (t ∷ p) (u ∷ q) m
differs_further t u p q m e f d =
    let here : (n : Monomial) → t.1 *ℤ one_at (order t.0 n) ≡ u.1 *ℤ one_at (order u.0 n) = λ n. λ i. f i *ℤ one_at (order (e i) n) in
    (λ s. d.0 (omega (arith, ints, s, here m)), λ n less. omega (arith, ints, d.1 n less, here n))

-- ---- by places

-- the same for equal polynomials and monomials
pub moved : (p f q g : Polynomial) (m n : Monomial) → p ≡ f → q ≡ g → m ≡ n → IsGreatestDifference p q n → IsGreatestDifference f g m
moved p f q g m n a b c d =
    let L : Polynomial → Type 0 = λ z. IsGreatestDifference z q n in
    let R : Polynomial → Type 0 = λ z. IsGreatestDifference f z n in
    let M : Monomial → Type 0 = λ z. IsGreatestDifference f g z in
    subst M (sym c) (subst R b (subst L a d))

pub found_greater : {E : Type 0} (r : ℤ → ℤ) (value : E → ℤ) (a b : List (Monomial × E)) (k : ℕ) (s t : Monomial × E) → s ≡ get_or a k s → t ≡ get_or b k t → k < length a → k < length b → IsPolynomial r (terms_of value a) → IsPolynomial r (terms_of value b) → Greater ≡ order s.0 t.0 → IsGreatestDifference (terms_of value (drop k a)) (terms_of value (drop k b)) s.0
found_greater r value a b k s t e f h j i l g =
    let u : Term = (s.0, value s.1) in let v : Term = (t.0, value t.1) in
    let m = terms_of value (drop (k + 1) a) in let n = terms_of value (drop (k + 1) b) in
    let left = terms_at value a k s e h in let right = terms_at value b k t f j in
    let P : Polynomial → Type 0 = λ z. IsPolynomial r z in
    let first : IsPolynomial r (u ∷ m) = subst P left (polynomial_from r value a k i) in
    let second : IsPolynomial r (v ∷ n) = subst P right (polynomial_from r value b k l) in
    let less = greater_from u.0 v.0 first.0 second.0 g in
    moved (u ∷ m) (terms_of value (drop k a)) (v ∷ n) (terms_of value (drop k b)) s.0 s.0 (sym left) (sym right) refl
    (differs_first r u m (v ∷ n) first (less, under_chain v.0 u.0 n less second.3))

pub found_less : {E : Type 0} (r : ℤ → ℤ) (value : E → ℤ) (a b : List (Monomial × E)) (k : ℕ) (s t : Monomial × E) → s ≡ get_or a k s → t ≡ get_or b k t → k < length a → k < length b → IsPolynomial r (terms_of value a) → IsPolynomial r (terms_of value b) → Less ≡ order s.0 t.0 → IsGreatestDifference (terms_of value (drop k a)) (terms_of value (drop k b)) t.0
found_less r value a b k s t e f h j i l g =
    let u : Term = (s.0, value s.1) in let v : Term = (t.0, value t.1) in
    let m = terms_of value (drop (k + 1) a) in let n = terms_of value (drop (k + 1) b) in
    let left = terms_at value a k s e h in let right = terms_at value b k t f j in
    let P : Polynomial → Type 0 = λ z. IsPolynomial r z in
    let first : IsPolynomial r (u ∷ m) = subst P left (polynomial_from r value a k i) in
    let second : IsPolynomial r (v ∷ n) = subst P right (polynomial_from r value b k l) in
    let less = less_from u.0 v.0 first.0 second.0 g in
    moved (u ∷ m) (terms_of value (drop k a)) (v ∷ n) (terms_of value (drop k b)) t.0 t.0 (sym left) (sym right) refl
    (differs_turned (v ∷ n) (u ∷ m) v.0 (differs_first r v n (u ∷ m) second (less, under_chain u.0 v.0 m less first.3)))

pub found_coefficient : {E : Type 0} (r : ℤ → ℤ) (value : E → ℤ) (a b : List (Monomial × E)) (k : ℕ) (s t : Monomial × E) → s ≡ get_or a k s → t ≡ get_or b k t → k < length a → k < length b → IsPolynomial r (terms_of value a) → IsPolynomial r (terms_of value b) → Equal ≡ order s.0 t.0 → (value s.1 ≡ value t.1 → ⊥) → IsGreatestDifference (terms_of value (drop k a)) (terms_of value (drop k b)) s.0
found_coefficient r value a b k s t e f h j i l g other =
    let u : Term = (s.0, value s.1) in let v : Term = (t.0, value t.1) in
    let m = terms_of value (drop (k + 1) a) in let n = terms_of value (drop (k + 1) b) in
    let left = terms_at value a k s e h in let right = terms_at value b k t f j in
    let P : Polynomial → Type 0 = λ z. IsPolynomial r z in
    let first : IsPolynomial r (u ∷ m) = subst P left (polynomial_from r value a k i) in
    let second : IsPolynomial r (v ∷ n) = subst P right (polynomial_from r value b k l) in
    moved (u ∷ m) (terms_of value (drop k a)) (v ∷ n) (terms_of value (drop k b)) s.0 s.0 (sym left) (sym right) refl
    (differs_coefficient r u v m n first second (order_same u.0 v.0 (sym g)) other)

pub found_longer : {E : Type 0} (r : ℤ → ℤ) (value : E → ℤ) (a b : List (Monomial × E)) (k : ℕ) (s : Monomial × E) → s ≡ get_or a k s → k < length a → length b ≤ k → IsPolynomial r (terms_of value a) → IsGreatestDifference (terms_of value (drop k a)) (terms_of value (drop k b)) s.0
found_longer r value a b k s e h j i =
    let u : Term = (s.0, value s.1) in
    let m = terms_of value (drop (k + 1) a) in
    let left = terms_at value a k s e h in let right = ap (terms_of value) (past_end b k j) in
    let P : Polynomial → Type 0 = λ z. IsPolynomial r z in
    let first : IsPolynomial r (u ∷ m) = subst P left (polynomial_from r value a k i) in
    moved (u ∷ m) (terms_of value (drop k a)) [] (terms_of value (drop k b)) s.0 s.0 (sym left) (sym right) refl (differs_first r u m [] first tt)

-- equal terms at k leave the comparison to the rest
pub same_further : {E : Type 0} (value : E → ℤ) (a b : List (Monomial × E)) (k : ℕ) (s t : Monomial × E) → s ≡ get_or a k s → t ≡ get_or b k t → k < length a → k < length b → Equal ≡ order s.0 t.0 → value s.1 ≡ value t.1 → terms_of value (drop (k + 1) a) ≡ terms_of value (drop (k + 1) b) → terms_of value (drop k a) ≡ terms_of value (drop k b)
same_further value a b k s t e f h j g same rest =
    let monomials = order_same s.0 t.0 (sym g) in
    terms_at value a k s e h ∙ (λ i. (monomials i, same i) ∷ rest i) ∙ sym (terms_at value b k t f j)

pub found_further : {E : Type 0} (value : E → ℤ) (a b : List (Monomial × E)) (k : ℕ) (s t : Monomial × E) (m : Monomial) → s ≡ get_or a k s → t ≡ get_or b k t → k < length a → k < length b → Equal ≡ order s.0 t.0 → value s.1 ≡ value t.1 → IsGreatestDifference (terms_of value (drop (k + 1) a)) (terms_of value (drop (k + 1) b)) m → IsGreatestDifference (terms_of value (drop k a)) (terms_of value (drop k b)) m
found_further value a b k s t m e f h j g same d =
    let u : Term = (s.0, value s.1) in let v : Term = (t.0, value t.1) in
    let p = terms_of value (drop (k + 1) a) in let q = terms_of value (drop (k + 1) b) in
    moved (u ∷ p) (terms_of value (drop k a)) (v ∷ q) (terms_of value (drop k b)) m m (sym (terms_at value a k s e h)) (sym (terms_at value b k t f j)) refl
    (differs_further u v p q m (order_same s.0 t.0 (sym g)) same d)
