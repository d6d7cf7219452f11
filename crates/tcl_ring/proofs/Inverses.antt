-- Sums, products and inverses of residues. The greatest common divisor decides whether there is an inverse.
use Rattle.std.proofs.Common.{◌≡◌, ℕ, zero, suc, ◌+◌, ◌-◌, ◌*◌, ◌/◌, ◌%◌, ◌<◌, ◌≤◌, refl, sym, ◌∙◌, ap, subst, arith, eq-eqb, ℤ, pos, negsuc, ◌+ℤ◌, ◌-ℤ◌, ◌*ℤ◌, ◌≤ℤ◌, neg_ℤ, unsigned_abs}
use Rattle.std.specs.Int.{int_rem_euclid, IsGcd}
use Rattle.std.proofs.lemmas.Int.{ints}
use Rattle.std.proofs.lemmas.Nat.{div-add-mod', mod_below}
use Rattle.std.proofs.lemmas.Bool.{eqb-true}
use Rattle.std.proofs.Math.Nat.{mod-zero, mod-eq_of_lt}
use Rattle.std.proofs.lemmas.Nat.Gcd.{mod-eq-zero_of_dvd}
use Rattle.tcl_num.specs.Congruence.{Divides, Congruent, is_multiple}
use Rattle.tcl_num.proofs.IntegerRing.{int_sub_mul, int_mul_assoc, int_mul_comm, int_sub_add}
use Rattle.tcl_num.proofs.EuclideanDivision.{remainder_small}
use Rattle.tcl_num.proofs.Congruences.{congruent_same, congruent_sym, congruent_trans, congruent_add, congruent_sub, congruent_neg, congruent_mul, congruent_mul_left, congruent_mul_right, congruent_remainder, remainder_congruent}
use Rattle.tcl_num.proofs.Divisibility.{congruent_from_remainder, divides_add, divides_mul, divides_from_congruent, divides_trans, is_multiple_sound, is_multiple_complete}

-- naturals with one residue, as congruent integers, and back
same_residue : (m x y : ℕ) → 0 < m → x % m ≡ y % m → Congruent (pos m) (pos x) (pos y)
same_residue m x y p e = congruent_from_remainder m (pos x) (pos y) p (ap pos e)

residue_same : (m x y : ℕ) → 0 < m → Congruent (pos m) (pos x) (pos y) → x % m ≡ y % m
residue_same m x y p c = ap unsigned_abs (remainder_congruent m (pos x) (pos y) p c)

-- a number is congruent to its residue
from_residue : (a : ℤ) (m r : ℕ) → 0 < m → int_rem_euclid a (pos m) ≡ pos r → Congruent (pos m) (pos r) a
from_residue a m r p e =
    let P : ℤ → Type 0 = λ x. Congruent (pos m) x a in
    subst P e (congruent_sym (pos m) a (int_rem_euclid a (pos m)) (congruent_remainder m a p))

pub residue_sum : (a b : ℤ) (m r s : ℕ) → 0 < m → int_rem_euclid a (pos m) ≡ pos r → int_rem_euclid b (pos m) ≡ pos s → pos ((r + s) % m) ≡ int_rem_euclid (a +ℤ b) (pos m)
residue_sum a b m r s p e f =
    remainder_congruent m (pos r +ℤ pos s) (a +ℤ b) p (congruent_add (pos m) (pos r) a (pos s) b (from_residue a m r p e) (from_residue b m s p f))

pub residue_product : (a b : ℤ) (m r s : ℕ) → 0 < m → int_rem_euclid a (pos m) ≡ pos r → int_rem_euclid b (pos m) ≡ pos s → pos ((r * s) % m) ≡ int_rem_euclid (a *ℤ b) (pos m)
residue_product a b m r s p e f =
    remainder_congruent m (pos r *ℤ pos s) (a *ℤ b) p (congruent_mul (pos m) (pos r) a (pos s) b (from_residue a m r p e) (from_residue b m s p f))

-- m - s is congruent to -s
turned : (m s : ℕ) → s ≤ m → Congruent (pos m) (pos (m - s)) (neg_ℤ (pos s))
turned m s h = (pos 1, omega (arith, ints))

pub residue_negation : (a : ℤ) (m r : ℕ) → 0 < m → r < m → int_rem_euclid a (pos m) ≡ pos r → pos ((0 + (m - r)) % m) ≡ int_rem_euclid (neg_ℤ a) (pos m)
residue_negation a m r p h e =
    let none : 0 + (m - r) ≡ m - r = omega arith in
    let back : Congruent (pos m) (neg_ℤ (pos r)) (neg_ℤ a) = congruent_neg (pos m) (pos r) a (from_residue a m r p e) in
    ap (λ x. pos (x % m)) none
    ∙ remainder_congruent m (pos (m - r)) (neg_ℤ a) p (congruent_trans (pos m) (pos (m - r)) (neg_ℤ (pos r)) (neg_ℤ a) (turned m r (omega arith)) back)

-- one step of the algorithm, over the integers: a remainder less a multiple of the next one
step_integers : (m a x y s t q : ℤ) → Congruent m (s *ℤ a) x → Congruent m (t *ℤ a) y → Congruent m ((s -ℤ q *ℤ t) *ℤ a) (x -ℤ q *ℤ y)
step_integers m a x y s t q c d =
    let further = congruent_sub m (s *ℤ a) x (q *ℤ (t *ℤ a)) (q *ℤ y) c (congruent_mul_right m (t *ℤ a) y q d) in
    (further.0, int_sub_mul s (q *ℤ t) a ∙ ap (λ z. s *ℤ a -ℤ z) (int_mul_assoc q t a) ∙ further.1)

pub euclid_step : (m a x y s t : ℕ) → 0 < m → (s * a) % m ≡ x % m → (t * a) % m ≡ y % m → ((s + (m - (x / y * t) % m)) % m * a) % m ≡ x % y % m
euclid_step m a x y s t p c d =
    let q = x / y in
    let u = (q * t) % m in
    let below = mod_below (q * t) m p in
    let v = s + (m - u) in
    let shorter : Congruent (pos m) (pos (v % m)) (pos v) = congruent_sym (pos m) (pos v) (pos (v % m)) (congruent_remainder m (pos v) p) in
    let minus : Congruent (pos m) (pos v) (pos s -ℤ pos u) = (pos 1, omega (arith, ints)) in
    let product : Congruent (pos m) (pos u) (pos q *ℤ pos t) = congruent_sym (pos m) (pos (q * t)) (pos u) (congruent_remainder m (pos (q * t)) p) in
    let whole : Congruent (pos m) (pos s -ℤ pos u) (pos s -ℤ pos q *ℤ pos t) = congruent_sub (pos m) (pos s) (pos s) (pos u) (pos q *ℤ pos t) (congruent_same (pos m) (pos s)) product in
    let cofactor = congruent_trans (pos m) (pos (v % m)) (pos v) (pos s -ℤ pos q *ℤ pos t) shorter (congruent_trans (pos m) (pos v) (pos s -ℤ pos u) (pos s -ℤ pos q *ℤ pos t) minus whole) in
    let times = congruent_mul_left (pos m) (pos (v % m)) (pos s -ℤ pos q *ℤ pos t) (pos a) cofactor in
    let end = step_integers (pos m) (pos a) (pos x) (pos y) (pos s) (pos t) (pos q) (same_residue m (s * a) x p c) (same_residue m (t * a) y p d) in
    let rest : pos x -ℤ pos q *ℤ pos y ≡ pos (x % y) = omega (arith, ints, div-add-mod' x y) in
    let P : ℤ → Type 0 = λ z. Congruent (pos m) (pos (v % m) *ℤ pos a) z in
    residue_same m (v % m * a) (x % y) p
    (subst P rest (congruent_trans (pos m) (pos (v % m) *ℤ pos a) ((pos s -ℤ pos q *ℤ pos t) *ℤ pos a) (pos x -ℤ pos q *ℤ pos y) times end))

-- 1 has no other divisor
divisor_of_one : (g : ℕ) → 1 % g ≡ 0 → g ≡ 1
divisor_of_one zero e = absurd (omega (arith, mod-zero 1))
divisor_of_one (suc zero) e = refl
divisor_of_one (suc (suc g)) e = absurd (let small : 1 % suc (suc g) ≡ 1 = mod-eq_of_lt (omega arith) in omega arith)

-- divisibility by the remainder of the magnitudes
multiple_of_magnitude : (d n : ℕ) → n % d ≡ 0 → Divides (pos d) (pos n)
unfolding is_multiple
multiple_of_magnitude d n e = is_multiple_sound (pos d) (pos n) (eq-eqb (n % d) 0 e)

magnitude_of_multiple : (d n : ℕ) → Divides (pos d) (pos n) → n % d ≡ 0
unfolding is_multiple
magnitude_of_multiple d n m = eqb-true (n % d) 0 (is_multiple_complete (pos d) (pos n) m)

-- a common divisor of the modulus and the residue divides 1 where there is an inverse
pub one_from_inverse : (m a g : ℕ) (n : ℤ) → 0 < m → IsGcd m a g → int_rem_euclid (pos a *ℤ n) (pos m) ≡ pos (1 % m) → g ≡ 1
one_from_inverse m a g n p (u, v, w) e =
    let modulus : Divides (pos g) (pos m) = multiple_of_magnitude g m (mod-eq-zero_of_dvd g u) in
    let factor : Divides (pos g) (pos a *ℤ n) = divides_mul (pos g) (pos a) n (multiple_of_magnitude g a (mod-eq-zero_of_dvd g v)) in
    let one : Congruent (pos m) (pos 1) (pos a *ℤ n) = congruent_from_remainder m (pos 1) (pos a *ℤ n) p (sym e) in
    let apart : Divides (pos g) (pos 1 -ℤ pos a *ℤ n) = divides_trans (pos g) (pos m) (pos 1 -ℤ pos a *ℤ n) modulus (divides_from_congruent (pos m) (pos 1) (pos a *ℤ n) one) in
    let sum = divides_add (pos g) (pos 1 -ℤ pos a *ℤ n) (pos a *ℤ n) apart factor in
    let P : ℤ → Type 0 = λ x. Divides (pos g) x in
    let divides_one : Divides (pos g) (pos 1) = subst P (int_sub_add (pos 1) (pos a *ℤ n)) sum in
    divisor_of_one g (magnitude_of_multiple g 1 divides_one)

-- the inverse of a residue, for each number with that residue
pub small_residue : (s m : ℕ) → s < m → int_rem_euclid (pos s) (pos m) ≡ pos s
small_residue s m h = remainder_small s m h

pub residue_inverse : (a : ℤ) (m r s : ℕ) → 0 < m → int_rem_euclid a (pos m) ≡ pos r → (s * r) % m ≡ 1 % m → int_rem_euclid (a *ℤ pos s) (pos m) ≡ pos (1 % m)
residue_inverse a m r s p e f =
    let turned_product : a *ℤ pos s ≡ pos s *ℤ a = int_mul_comm a (pos s) in
    ap (λ x. int_rem_euclid x (pos m)) turned_product
    ∙ remainder_congruent m (pos s *ℤ a) (pos s *ℤ pos r) p (congruent_mul_right (pos m) a (pos r) (pos s) (congruent_sym (pos m) (pos r) a (from_residue a m r p e)))
    ∙ ap pos f

pub no_residue_inverse : (a : ℤ) (m r : ℕ) → 0 < m → int_rem_euclid a (pos m) ≡ pos r → ((n : ℤ) → int_rem_euclid (pos r *ℤ n) (pos m) ≡ pos (1 % m) → ⊥) → (n : ℤ) → int_rem_euclid (a *ℤ n) (pos m) ≡ pos (1 % m) → ⊥
no_residue_inverse a m r p e none n f =
    none n (remainder_congruent m (pos r *ℤ n) (a *ℤ n) p (congruent_mul_left (pos m) (pos r) a n (from_residue a m r p e)) ∙ f)

-- a number from 0 and below the modulus is its own residue
pub own_residue : (n : ℤ) (m : ℕ) → pos 0 ≤ℤ n → unsigned_abs n < m → int_rem_euclid n (pos m) ≡ pos (unsigned_abs n)
own_residue (pos n) m p q = remainder_small n m q
own_residue (negsuc n) m p q = absurd (omega (arith, ints, p))
