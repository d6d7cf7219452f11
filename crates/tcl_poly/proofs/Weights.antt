-- One law for each operation, for every weight of the monomials: the coefficients and the values are instances of it.
use Rattle.std.proofs.Common.{◌≡◌, zero, suc, refl, sym, ◌∙◌, ap, arith, [], ◌∷◌, Ordering, Less, Equal, Greater, ℤ, pos, negsuc, ◌+ℤ◌, ◌*ℤ◌}
use Rattle.std.proofs.lemmas.Int.{ints}
use Rattle.tcl_num.proofs.IntegerRing.{int_add_comm, int_add_assoc, int_add_mul, int_mul_add, int_mul_assoc, int_mul_comm, int_mul_swap, int_mul_zero, int_zero_mul, int_zero_add}
use Rattle.tcl_ring.specs.Reduction.{IsReduction}
use Rattle.tcl_poly.specs.Monomial.{Monomial, times, order}
use Rattle.tcl_poly.specs.Polynomial.{Term, Polynomial, front, add_at, add_term, sum_of, scaled, product_of, weigh}
use Rattle.tcl_poly.proofs.MonomialLaws.{order_same}

-- sums of numbers that are equal in the ring
pub two_sums : (r : ℤ → ℤ) → IsReduction r → (a b c d : ℤ) → r a ≡ r b → r c ≡ r d → r (a +ℤ c) ≡ r (b +ℤ d)
two_sums r ring a b c d e f =
    ring.sums a b c e ∙ ap r (int_add_comm b c) ∙ ring.sums c d b f ∙ ap r (int_add_comm d b)

pub right_sum : (r : ℤ → ℤ) → IsReduction r → (a c d : ℤ) → r c ≡ r d → r (a +ℤ c) ≡ r (a +ℤ d)
right_sum r ring a c d f = two_sums r ring a a c d refl f

-- a reduced coefficient weighs as much as the coefficient
pub reduced_weight : (r : ℤ → ℤ) → IsReduction r → (c w : ℤ) → r (r c *ℤ w) ≡ r (c *ℤ w)
reduced_weight r ring c w =
    ap r (int_mul_comm (r c) w) ∙ ring.products (r c) c w (ring.twice c) ∙ ap r (int_mul_comm w c)

pub weigh_front : (φ : Monomial → ℤ) (m : Monomial) (c : ℤ) (p : Polynomial) → weigh φ (front m c p) ≡ c *ℤ φ m +ℤ weigh φ p
weigh_front φ m (pos zero) p = sym (ap (λ x. x +ℤ weigh φ p) (int_zero_mul (φ m)) ∙ int_zero_add (weigh φ p))
weigh_front φ m (pos (suc n)) p = refl
weigh_front φ m (negsuc n) p = refl

swapped : (a b c : ℤ) → a +ℤ (b +ℤ c) ≡ b +ℤ (a +ℤ c)
swapped a b c = omega (arith, ints)

weigh_add_at : (r : ℤ → ℤ) → IsReduction r → (φ : Monomial → ℤ) (o : Ordering) (t u : Term) (p further : Polynomial) → (o ≡ Equal → t.0 ≡ u.0) → r (weigh φ further) ≡ r (t.1 *ℤ φ t.0 +ℤ weigh φ p) → r (weigh φ (add_at r o t u p further)) ≡ r (t.1 *ℤ φ t.0 +ℤ weigh φ (u ∷ p))
weigh_add_at r ring φ Less t u p further same e =
    right_sum r ring (u.1 *ℤ φ u.0) (weigh φ further) (t.1 *ℤ φ t.0 +ℤ weigh φ p) e
    ∙ ap r (swapped (u.1 *ℤ φ u.0) (t.1 *ℤ φ t.0) (weigh φ p))
weigh_add_at r ring φ Equal t u p further same e =
    ap r (weigh_front φ u.0 (r (t.1 +ℤ u.1)) p)
    ∙ ring.sums (r (t.1 +ℤ u.1) *ℤ φ u.0) ((t.1 +ℤ u.1) *ℤ φ u.0) (weigh φ p) (reduced_weight r ring (t.1 +ℤ u.1) (φ u.0))
    ∙ ap (λ x. r (x +ℤ weigh φ p)) (int_add_mul t.1 u.1 (φ u.0) ∙ ap (λ m. t.1 *ℤ φ m +ℤ u.1 *ℤ φ u.0) (sym (same refl)))
    ∙ ap r (int_add_assoc (t.1 *ℤ φ t.0) (u.1 *ℤ φ u.0) (weigh φ p))
weigh_add_at r ring φ Greater t u p further same e = refl

pub weigh_add_term : (r : ℤ → ℤ) → IsReduction r → (φ : Monomial → ℤ) (t : Term) (p : Polynomial) → r (weigh φ (add_term r t p)) ≡ r (t.1 *ℤ φ t.0 +ℤ weigh φ p)
weigh_add_term r ring φ t [] = refl
weigh_add_term r ring φ t (u ∷ p) = weigh_add_at r ring φ (order t.0 u.0) t u p (add_term r t p) (order_same t.0 u.0) (weigh_add_term r ring φ t p)

pub weigh_sum : (r : ℤ → ℤ) → IsReduction r → (φ : Monomial → ℤ) (p q : Polynomial) → r (weigh φ (sum_of r p q)) ≡ r (weigh φ p +ℤ weigh φ q)
weigh_sum r ring φ [] q = ap r (sym (int_zero_add (weigh φ q)))
weigh_sum r ring φ (t ∷ p) q =
    weigh_add_term r ring φ t (sum_of r p q)
    ∙ right_sum r ring (t.1 *ℤ φ t.0) (weigh φ (sum_of r p q)) (weigh φ p +ℤ weigh φ q) (weigh_sum r ring φ p q)
    ∙ ap r (sym (int_add_assoc (t.1 *ℤ φ t.0) (weigh φ p) (weigh φ q)))

pub weigh_scaled : (r : ℤ → ℤ) → IsReduction r → (φ : Monomial → ℤ) (t : Term) (p : Polynomial) → r (weigh φ (scaled r t p)) ≡ r (t.1 *ℤ weigh (λ m. φ (times t.0 m)) p)
weigh_scaled r ring φ t [] = ap r (sym (int_mul_zero t.1))
weigh_scaled r ring φ t (u ∷ p) =
    let w = φ (times t.0 u.0) in
    let rest = weigh (λ m. φ (times t.0 m)) p in
    ap r (weigh_front φ (times t.0 u.0) (r (t.1 *ℤ u.1)) (scaled r t p))
    ∙ two_sums r ring (r (t.1 *ℤ u.1) *ℤ w) ((t.1 *ℤ u.1) *ℤ w) (weigh φ (scaled r t p)) (t.1 *ℤ rest) (reduced_weight r ring (t.1 *ℤ u.1) w) (weigh_scaled r ring φ t p)
    ∙ ap (λ x. r (x +ℤ t.1 *ℤ rest)) (int_mul_assoc t.1 u.1 w)
    ∙ ap r (sym (int_mul_add t.1 (u.1 *ℤ w) rest))

pub weigh_product : (r : ℤ → ℤ) → IsReduction r → (φ : Monomial → ℤ) (p q : Polynomial) → r (weigh φ (product_of r p q)) ≡ r (weigh (λ n. weigh (λ m. φ (times n m)) q) p)
weigh_product r ring φ [] q = refl
weigh_product r ring φ (t ∷ p) q =
    weigh_sum r ring φ (scaled r t q) (product_of r p q)
    ∙ two_sums r ring (weigh φ (scaled r t q)) (t.1 *ℤ weigh (λ m. φ (times t.0 m)) q) (weigh φ (product_of r p q)) (weigh (λ n. weigh (λ m. φ (times n m)) q) p) (weigh_scaled r ring φ t q) (weigh_product r ring φ p q)

-- ---- weights

pub weigh_alike : (φ ψ : Monomial → ℤ) (p : Polynomial) → ((m : Monomial) → φ m ≡ ψ m) → weigh φ p ≡ weigh ψ p
weigh_alike φ ψ [] e = refl
weigh_alike φ ψ (t ∷ p) e = ap (λ x. t.1 *ℤ x +ℤ weigh φ p) (e t.0) ∙ ap (λ x. t.1 *ℤ ψ t.0 +ℤ x) (weigh_alike φ ψ p e)

-- a constant factor of the weight
pub weigh_factor : (c : ℤ) (φ : Monomial → ℤ) (p : Polynomial) → weigh (λ m. c *ℤ φ m) p ≡ c *ℤ weigh φ p
weigh_factor c φ [] = sym (int_mul_zero c)
weigh_factor c φ (t ∷ p) =
    ap (λ x. t.1 *ℤ (c *ℤ φ t.0) +ℤ x) (weigh_factor c φ p)
    ∙ ap (λ x. x +ℤ c *ℤ weigh φ p) (int_mul_swap t.1 c (φ t.0))
    ∙ sym (int_mul_add c (t.1 *ℤ φ t.0) (weigh φ p))

pub weigh_null : (p : Polynomial) → weigh (λ m. pos 0) p ≡ pos 0
weigh_null [] = refl
weigh_null (t ∷ p) = ap (λ x. x +ℤ weigh (λ m. pos 0) p) (int_mul_zero t.1) ∙ int_zero_add (weigh (λ m. pos 0) p) ∙ weigh_null p

pub weigh_two : (φ ψ : Monomial → ℤ) (p : Polynomial) → weigh (λ m. φ m +ℤ ψ m) p ≡ weigh φ p +ℤ weigh ψ p
weigh_two φ ψ [] = refl
weigh_two φ ψ (t ∷ p) =
    let whole = int_mul_add t.1 (φ t.0) (ψ t.0) in
    omega (arith, ints, whole, weigh_two φ ψ p)

-- a double sum in the other order
pub weigh_swap : (φ : Monomial → Monomial → ℤ) (p q : Polynomial) → weigh (λ n. weigh (λ m. φ n m) q) p ≡ weigh (λ m. weigh (λ n. φ n m) p) q
weigh_swap φ [] q = sym (weigh_null q)
weigh_swap φ (t ∷ p) q =
    ap (λ x. t.1 *ℤ weigh (φ t.0) q +ℤ x) (weigh_swap φ p q)
    ∙ ap (λ x. x +ℤ weigh (λ m. weigh (λ n. φ n m) p) q) (sym (weigh_factor t.1 (φ t.0) q))
    ∙ sym (weigh_two (λ m. t.1 *ℤ φ t.0 m) (λ m. weigh (λ n. φ n m) p) q)
