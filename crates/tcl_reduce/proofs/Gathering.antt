-- The parts times the powers of the unknown make the polynomial again.
use Rattle.std.proofs.Common.{◌≡◌, ℕ, zero, suc, ◌<◌, ◌≤◌, ◌==◌, ◌⊎◌, inl, inr, refl, sym, ◌∙◌, ap, arith, Bool, true, false, if◌then◌else◌, [], ◌∷◌, eq-eqb, eqb-true, ℤ, pos, ◌+ℤ◌, ◌*ℤ◌}
use Rattle.std.proofs.lemmas.Bool.{ne_eqb}
use Rattle.std.proofs.lemmas.Int.{ints}
use Rattle.tcl_num.proofs.IntegerRing.{int_add_zero, int_zero_add, int_one_mul}
use Rattle.tcl_ring.specs.Reduction.{IsReduction}
use Rattle.tcl_poly.specs.Monomial.{Monomial, exponent, times}
use Rattle.tcl_poly.specs.Polynomial.{Term, Polynomial, IsPolynomial, product_of, weigh, power_of}
use Rattle.tcl_poly.proofs.Weights.{two_sums, reduced_weight, weigh_front, weigh_sum, weigh_product}
use Rattle.tcl_poly.proofs.Canonical.{sum_is, product_is, power_is, same_alike}
use Rattle.tcl_reduce.specs.Parts.{without, part, top}
use Rattle.tcl_reduce.specs.Laws.{gathered}
use Rattle.tcl_reduce.proofs.PartLemmas.{power_monomial, power_is_front, restored, part_is}

-- the weight of the terms in which u has the exponent k
abbrev only : (Monomial → ℤ) → ℕ → ℕ → Polynomial → ℤ
only φ u k [] = pos 0
only φ u k (t ∷ p) = (if exponent t.0 u == k then t.1 *ℤ φ t.0 else pos 0) +ℤ only φ u k p

-- the same for the exponents below k
abbrev below : (Monomial → ℤ) → ℕ → ℕ → Polynomial → ℤ
below φ u zero p = pos 0
below φ u (suc k) p = below φ u k p +ℤ only φ u k p

-- the weight of a power of the unknown
pub weigh_power : (r : ℤ → ℤ) → IsReduction r → (φ : Monomial → ℤ) (u k : ℕ) → r (weigh φ (power_of r u k)) ≡ r (φ (power_monomial u k))
weigh_power r ring φ u k =
    let w = φ (power_monomial u k) in
    ap (λ p. r (weigh φ p)) (power_is_front r u k)
    ∙ ap r (weigh_front φ (power_monomial u k) (r (pos 1)) [] ∙ int_add_zero (r (pos 1) *ℤ w))
    ∙ reduced_weight r ring (pos 1) w
    ∙ ap r (int_one_mul w)

only_part_at : (r : ℤ → ℤ) (b : Bool) (φ : Monomial → ℤ) (u k : ℕ) (t : Term) (p : Polynomial) → (exponent t.0 u == k) ≡ b → IsPolynomial r (t ∷ p) → weigh (λ n. φ (times n (power_monomial u k))) (part u k p) ≡ only φ u k p → weigh (λ n. φ (times n (power_monomial u k))) (if b then (without u t.0, t.1) ∷ part u k p else part u k p) ≡ (if b then t.1 *ℤ φ t.0 else pos 0) +ℤ only φ u k p
only_part_at r true φ u k t p e h i =
    ap (λ m. t.1 *ℤ φ m +ℤ weigh (λ n. φ (times n (power_monomial u k))) (part u k p)) (restored u k t.0 h.0 (eqb-true (exponent t.0 u) k e))
    ∙ ap (λ x. t.1 *ℤ φ t.0 +ℤ x) i
only_part_at r false φ u k t p e h i = i ∙ sym (int_zero_add (only φ u k p))

only_part : (r : ℤ → ℤ) (φ : Monomial → ℤ) (u k : ℕ) (p : Polynomial) → IsPolynomial r p → weigh (λ n. φ (times n (power_monomial u k))) (part u k p) ≡ only φ u k p
only_part r φ u k [] h = refl
only_part r φ u k (t ∷ p) h = only_part_at r (exponent t.0 u == k) φ u k t p refl h (only_part r φ u k p h.4)

-- the weight of a part times its power
weigh_part : (r : ℤ → ℤ) → IsReduction r → (φ : Monomial → ℤ) (u k : ℕ) (p : Polynomial) → IsPolynomial r p → r (weigh φ (product_of r (part u k p) (power_of r u k))) ≡ r (only φ u k p)
weigh_part r ring φ u k p h =
    let inner : Monomial → ℤ = λ n. weigh (λ m. φ (times n m)) (power_of r u k) in
    let outer : Monomial → ℤ = λ n. φ (times n (power_monomial u k)) in
    weigh_product r ring φ (part u k p) (power_of r u k)
    ∙ alike r ring inner outer (part u k p) (λ n. weigh_power r ring (λ m. φ (times n m)) u k)
    ∙ ap r (only_part r φ u k p h)
  where
    -- weights that agree in the ring
    alike : (r : ℤ → ℤ) → IsReduction r → (φ ψ : Monomial → ℤ) (p : Polynomial) → ((m : Monomial) → r (φ m) ≡ r (ψ m)) → r (weigh φ p) ≡ r (weigh ψ p)
    alike r ring φ ψ [] e = refl
    alike r ring φ ψ (t ∷ p) e =
        two_sums r ring (t.1 *ℤ φ t.0) (t.1 *ℤ ψ t.0) (weigh φ p) (weigh ψ p) (ring.products (φ t.0) (ψ t.0) t.1 (e t.0)) (alike r ring φ ψ p e)

-- what one term with the exponent e adds to the weight below k
abbrev share : ℕ → ℕ → ℤ → ℤ
share e zero c = pos 0
share e (suc k) c = share e k c +ℤ (if e == k then c else pos 0)

if_true : (b : Bool) (c : ℤ) → b ≡ true → (if b then c else pos 0) ≡ c
if_true b c e = ap (λ x. if x then c else pos 0) e

if_false : (b : Bool) (c : ℤ) → b ≡ false → (if b then c else pos 0) ≡ pos 0
if_false b c e = ap (λ x. if x then c else pos 0) e

share_out : (e k : ℕ) (c : ℤ) → k ≤ e → share e k c ≡ pos 0
share_out e zero c h = refl
share_out e (suc k) c h =
    (λ i. share_out e k c (omega (arith, h)) i +ℤ if_false (e == k) c (ne_eqb e k (λ s. omega (arith, h, s))) i)

pub last_or_before : (e k : ℕ) → e < suc k → (e ≡ k) ⊎ (e < k)
last_or_before e k h = grind arith

share_in : (e k : ℕ) (c : ℤ) → e < k → share e k c ≡ c
share_in e zero c h = absurd (omega (arith, h))
share_in e (suc k) c h = elim (last_or_before e k h) [
  | inl s ↦ (λ i. share_out e k c (omega (arith, s)) i +ℤ if_true (e == k) c (eq-eqb e k s) i) ∙ int_zero_add c
  | inr l ↦ (λ i. share_in e k c l i +ℤ if_false (e == k) c (ne_eqb e k (λ s. omega (arith, l, s))) i) ∙ int_add_zero c
]

moved : (a b c d : ℤ) → (a +ℤ b) +ℤ (c +ℤ d) ≡ (a +ℤ c) +ℤ (b +ℤ d)
moved a b c d = omega (arith, ints)

below_term : (φ : Monomial → ℤ) (u k : ℕ) (t : Term) (p : Polynomial) → below φ u k (t ∷ p) ≡ share (exponent t.0 u) k (t.1 *ℤ φ t.0) +ℤ below φ u k p
below_term φ u zero t p = refl
below_term φ u (suc k) t p =
    let one = if exponent t.0 u == k then t.1 *ℤ φ t.0 else pos 0 in
    ap (λ x. x +ℤ (one +ℤ only φ u k p)) (below_term φ u k t p)
    ∙ moved (share (exponent t.0 u) k (t.1 *ℤ φ t.0)) (below φ u k p) one (only φ u k p)

below_nothing : (φ : Monomial → ℤ) (u k : ℕ) → below φ u k [] ≡ pos 0
below_nothing φ u zero = refl
below_nothing φ u (suc k) = ap (λ x. x +ℤ pos 0) (below_nothing φ u k)

-- below a number that no exponent reaches stands the whole weight
below_all : (φ : Monomial → ℤ) (u k : ℕ) (p : Polynomial) → top u p < k → below φ u k p ≡ weigh φ p
below_all φ u k [] h = below_nothing φ u k
below_all φ u k (t ∷ p) h =
    below_term φ u k t p
    ∙ (λ i. share_in (exponent t.0 u) k (t.1 *ℤ φ t.0) (omega (arith, h)) i +ℤ below_all φ u k p (omega (arith, h)) i)

pub gathered_is : (r : ℤ → ℤ) → IsReduction r → (u : ℕ) (f : Polynomial) (k : ℕ) → IsPolynomial r f → IsPolynomial r (gathered r u f k)
gathered_is r ring u f zero h = tt
gathered_is r ring u f (suc k) h =
    sum_is r ring (gathered r u f k) (product_of r (part u k f) (power_of r u k)) (gathered_is r ring u f k h)
    (product_is r ring (part u k f) (power_of r u k) (part_is r u k f h) (power_is r ring u k))

weigh_gathered : (r : ℤ → ℤ) → IsReduction r → (φ : Monomial → ℤ) (u : ℕ) (f : Polynomial) (k : ℕ) → IsPolynomial r f → r (weigh φ (gathered r u f k)) ≡ r (below φ u k f)
weigh_gathered r ring φ u f zero h = refl
weigh_gathered r ring φ u f (suc k) h =
    weigh_sum r ring φ (gathered r u f k) (product_of r (part u k f) (power_of r u k))
    ∙ two_sums r ring (weigh φ (gathered r u f k)) (below φ u k f) (weigh φ (product_of r (part u k f) (power_of r u k))) (only φ u k f) (weigh_gathered r ring φ u f k h) (weigh_part r ring φ u k f h)

-- the parts times the powers make the polynomial again
pub gathers : (r : ℤ → ℤ) → IsReduction r → (u : ℕ) (f : Polynomial) (k : ℕ) → IsPolynomial r f → top u f < k → f ≡ gathered r u f k
gathers r ring u f k h t =
    same_alike r ring f (gathered r u f k) h (gathered_is r ring u f k h)
    (λ φ. ap r (sym (below_all φ u k f t)) ∙ sym (weigh_gathered r ring φ u f k h))
