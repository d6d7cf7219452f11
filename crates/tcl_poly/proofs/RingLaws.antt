-- Canonical polynomials are a commutative ring: its laws hold as equations of lists.
use Rattle.std.proofs.Common.{◌≡◌, refl, sym, ◌∙◌, ap, [], ◌∷◌, ◌++◌, ℤ, pos, ◌+ℤ◌, ◌*ℤ◌}
use Rattle.tcl_num.proofs.IntegerRing.{int_add_comm, int_add_assoc, int_add_zero, int_one_mul}
use Rattle.tcl_ring.specs.Reduction.{IsReduction}
use Rattle.tcl_poly.specs.Monomial.{Monomial, IsMonomial, times}
use Rattle.tcl_poly.specs.Polynomial.{Polynomial, IsUnder, IsPolynomial, sum_of, scaled, product_of, number_of, weigh}
use Rattle.tcl_poly.proofs.MonomialLaws.{times_comm, times_assoc}
use Rattle.tcl_poly.proofs.Weights.{two_sums, right_sum, reduced_weight, weigh_front, weigh_factor, weigh_sum, weigh_product, weigh_swap}
use Rattle.tcl_poly.proofs.Canonical.{sum_is, scaled_is, product_is, number_is, same_alike}

pub sum_comm : (r : ℤ → ℤ) → IsReduction r → (p q : Polynomial) → IsPolynomial r p → IsPolynomial r q → sum_of r p q ≡ sum_of r q p
sum_comm r ring p q h j =
    same_alike r ring (sum_of r p q) (sum_of r q p) (sum_is r ring p q h j) (sum_is r ring q p j h)
    (λ φ. weigh_sum r ring φ p q ∙ ap r (int_add_comm (weigh φ p) (weigh φ q)) ∙ sym (weigh_sum r ring φ q p))

pub sum_assoc : (r : ℤ → ℤ) → IsReduction r → (p q s : Polynomial) → IsPolynomial r p → IsPolynomial r q → IsPolynomial r s → sum_of r (sum_of r p q) s ≡ sum_of r p (sum_of r q s)
sum_assoc r ring p q s h j k =
    same_alike r ring (sum_of r (sum_of r p q) s) (sum_of r p (sum_of r q s)) (sum_is r ring (sum_of r p q) s (sum_is r ring p q h j) k) (sum_is r ring p (sum_of r q s) h (sum_is r ring q s j k))
    (λ φ. weigh_sum r ring φ (sum_of r p q) s
    ∙ ring.sums (weigh φ (sum_of r p q)) (weigh φ p +ℤ weigh φ q) (weigh φ s) (weigh_sum r ring φ p q)
    ∙ ap r (int_add_assoc (weigh φ p) (weigh φ q) (weigh φ s))
    ∙ sym (right_sum r ring (weigh φ p) (weigh φ (sum_of r q s)) (weigh φ q +ℤ weigh φ s) (weigh_sum r ring φ q s))
    ∙ sym (weigh_sum r ring φ p (sum_of r q s)))

pub sum_nothing : (r : ℤ → ℤ) → IsReduction r → (p : Polynomial) → IsPolynomial r p → sum_of r p [] ≡ p
sum_nothing r ring p h = sum_comm r ring p [] h tt

-- weights of monomials alone agree; the terms of a polynomial have monomials
pub weigh_alike_on : (r : ℤ → ℤ) (φ ψ : Monomial → ℤ) (p : Polynomial) → IsPolynomial r p → ((m : Monomial) → IsMonomial m → φ m ≡ ψ m) → weigh φ p ≡ weigh ψ p
weigh_alike_on r φ ψ [] h e = refl
weigh_alike_on r φ ψ (t ∷ p) h e =
    ap (λ x. t.1 *ℤ x +ℤ weigh φ p) (e t.0 h.0) ∙ ap (λ x. t.1 *ℤ ψ t.0 +ℤ x) (weigh_alike_on r φ ψ p h.4 e)

pub product_comm : (r : ℤ → ℤ) → IsReduction r → (p q : Polynomial) → IsPolynomial r p → IsPolynomial r q → product_of r p q ≡ product_of r q p
product_comm r ring p q h j =
    same_alike r ring (product_of r p q) (product_of r q p) (product_is r ring p q h j) (product_is r ring q p j h)
    (λ φ. weigh_product r ring φ p q
    ∙ ap r (weigh_swap (λ n m. φ (times n m)) p q)
    ∙ ap r (weigh_alike_on r (λ m. weigh (λ n. φ (times n m)) p) (λ m. weigh (λ n. φ (times m n)) p) q j
    (λ m i. weigh_alike_on r (λ n. φ (times n m)) (λ n. φ (times m n)) p h (λ n k. ap φ (times_comm n m k i))))
    ∙ sym (weigh_product r ring φ q p))

pub product_sum : (r : ℤ → ℤ) → IsReduction r → (p q s : Polynomial) → IsPolynomial r p → IsPolynomial r q → IsPolynomial r s → product_of r (sum_of r p q) s ≡ sum_of r (product_of r p s) (product_of r q s)
product_sum r ring p q s h j k =
    same_alike r ring (product_of r (sum_of r p q) s) (sum_of r (product_of r p s) (product_of r q s))
    (product_is r ring (sum_of r p q) s (sum_is r ring p q h j) k)
    (sum_is r ring (product_of r p s) (product_of r q s) (product_is r ring p s h k) (product_is r ring q s j k))
    (λ φ. let ψ : Monomial → ℤ = λ n. weigh (λ m. φ (times n m)) s in
    weigh_product r ring φ (sum_of r p q) s
    ∙ weigh_sum r ring ψ p q
    ∙ sym (two_sums r ring (weigh φ (product_of r p s)) (weigh ψ p) (weigh φ (product_of r q s)) (weigh ψ q) (weigh_product r ring φ p s) (weigh_product r ring φ q s))
    ∙ sym (weigh_sum r ring φ (product_of r p s) (product_of r q s)))

-- the inner sum of a product of three, reduced or not
inner_row : (r : ℤ → ℤ) → IsReduction r → (φ : Monomial → ℤ) (n : Monomial) (q s : Polynomial) → IsMonomial n → IsPolynomial r q → IsPolynomial r s → r (weigh (λ m. weigh (λ l. φ (times (times n m) l)) s) q) ≡ r (weigh (λ m. φ (times n m)) (product_of r q s))
inner_row r ring φ n q s i j k =
    ap r (weigh_alike_on r (λ m. weigh (λ l. φ (times (times n m) l)) s) (λ m. weigh (λ l. φ (times n (times m l))) s) q j
    (λ m x. weigh_alike_on r (λ l. φ (times (times n m) l)) (λ l. φ (times n (times m l))) s k (λ l y. ap φ (times_assoc n m l i x y))))
    ∙ sym (weigh_product r ring (λ m. φ (times n m)) q s)

inner : (r : ℤ → ℤ) → IsReduction r → (φ : Monomial → ℤ) (p q s : Polynomial) → IsPolynomial r p → IsPolynomial r q → IsPolynomial r s → r (weigh (λ n. weigh (λ m. weigh (λ l. φ (times (times n m) l)) s) q) p) ≡ r (weigh (λ n. weigh (λ m. φ (times n m)) (product_of r q s)) p)
inner r ring φ [] q s h j k = refl
inner r ring φ (t ∷ p) q s h j k =
    let before : Monomial → ℤ = λ n. weigh (λ m. weigh (λ l. φ (times (times n m) l)) s) q in
    let after : Monomial → ℤ = λ n. weigh (λ m. φ (times n m)) (product_of r q s) in
    two_sums r ring (t.1 *ℤ before t.0) (t.1 *ℤ after t.0) (weigh before p) (weigh after p)
    (ring.products (before t.0) (after t.0) t.1 (inner_row r ring φ t.0 q s h.0 j k))
    (inner r ring φ p q s h.4 j k)

pub product_assoc : (r : ℤ → ℤ) → IsReduction r → (p q s : Polynomial) → IsPolynomial r p → IsPolynomial r q → IsPolynomial r s → product_of r (product_of r p q) s ≡ product_of r p (product_of r q s)
product_assoc r ring p q s h j k =
    same_alike r ring (product_of r (product_of r p q) s) (product_of r p (product_of r q s))
    (product_is r ring (product_of r p q) s (product_is r ring p q h j) k)
    (product_is r ring p (product_of r q s) h (product_is r ring q s j k))
    (λ φ. let ψ : Monomial → ℤ = λ n. weigh (λ m. φ (times n m)) s in
    weigh_product r ring φ (product_of r p q) s
    ∙ weigh_product r ring ψ p q
    ∙ inner r ring φ p q s h j k
    ∙ sym (weigh_product r ring φ p (product_of r q s)))

-- the parts of a canonical list are canonical
under_part : (m : Monomial) (p q : Polynomial) → IsUnder m (p ++ q) → IsUnder m p
under_part m [] q u = tt
under_part m (t ∷ p) q u = (u.0, under_part m p q u.1)

pub front_part : (r : ℤ → ℤ) (p q : Polynomial) → IsPolynomial r (p ++ q) → IsPolynomial r p
front_part r [] q h = tt
front_part r (t ∷ p) q h = (h.0, h.1, h.2, under_part t.0 p q h.3, front_part r p q h.4)

pub back_part : (r : ℤ → ℤ) (p q : Polynomial) → IsPolynomial r (p ++ q) → IsPolynomial r q
back_part r [] q h = h
back_part r (t ∷ p) q h = back_part r p q h.4

-- a front of a polynomial is multiplied by itself
pub product_front : (r : ℤ → ℤ) → IsReduction r → (p q s : Polynomial) → IsPolynomial r (p ++ q) → IsPolynomial r s → product_of r (p ++ q) s ≡ sum_of r (product_of r p s) (product_of r q s)
product_front r ring [] q s h k = refl
product_front r ring (t ∷ p) q s h k =
    ap (λ x. sum_of r (scaled r t s) x) (product_front r ring p q s h.4 k)
    ∙ sym (sum_assoc r ring (scaled r t s) (product_of r p s) (product_of r q s) (scaled_is r ring t s h.0 k) (product_is r ring p s (front_part r p q h.4) k) (product_is r ring q s (back_part r p q h.4) k))

-- a product with 1, and with no terms
pub product_one : (r : ℤ → ℤ) → IsReduction r → (p : Polynomial) → IsPolynomial r p → product_of r p (number_of r (pos 1)) ≡ p
product_one r ring p h =
    let one = number_of r (pos 1) in
    same_alike r ring (product_of r p one) p (product_is r ring p one h (number_is r ring (pos 1))) h
    (λ φ. weigh_product r ring φ p one
    ∙ ap r (weigh_alike_on r (λ n. weigh (λ m. φ (times n m)) one) (λ n. r (pos 1) *ℤ φ n) p h
    (λ n i. weigh_front (λ m. φ (times n m)) [] (r (pos 1)) [] ∙ int_add_zero (r (pos 1) *ℤ φ (times n [])) ∙ ap (λ x. r (pos 1) *ℤ φ x) (times_comm n [] i tt)))
    ∙ ap r (weigh_factor (r (pos 1)) φ p)
    ∙ reduced_weight r ring (pos 1) (weigh φ p)
    ∙ ap r (int_one_mul (weigh φ p)))

pub product_none : (r : ℤ → ℤ) (p : Polynomial) → product_of r p [] ≡ []
product_none r [] = refl
product_none r (t ∷ p) = product_none r p
