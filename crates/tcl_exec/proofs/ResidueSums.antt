-- Residues of sums, products and powers, as the code makes them.
use Rattle.std.proofs.Common.{◌≡◌, ℕ, zero, suc, ◌+◌, ◌-◌, ◌*◌, ◌/◌, ◌%◌, ◌^◌, ◌<◌, refl, sym, ◌∙◌, ap, arith, ℤ, pos, negsuc, neg_ℤ, ◌+ℤ◌, ◌-ℤ◌, ◌*ℤ◌, ◌≤ℤ◌, ◌<ℤ◌, ◌≢◌, unsigned_abs, Bool, true, false, nat_eq}
use Rattle.std.specs.Int.{int_rem_euclid}
use Rattle.std.proofs.lemmas.Bool.{eqb-true}
use Rattle.std.proofs.lemmas.Bool.Decides.{nat_tests}
use Rattle.std.proofs.lemmas.Int.{ints}
use Rattle.std.proofs.lemmas.Nat.{div-add-mod', pow-add}
use Rattle.std.proofs.Math.Nat.{add-mul-mod_self_right, pow-suc, pow-zero}
use Rattle.tcl_num.specs.Congruence.{is_multiple}
use Rattle.tcl_num.proofs.EuclideanDivision.{euclid_natural}
use Rattle.tcl_num.proofs.Congruences.{remainder_congruent}
use Rattle.tcl_num.proofs.Divisibility.{is_multiple_sound, is_multiple_complete, congruent_from_divides, divides_from_congruent, congruent_from_remainder}
use Rattle.tcl_ring.proofs.Inverses.{residue_sum, residue_product, residue_negation}
use Rattle.tcl_lang.specs.Term.{power_of}

-- an integer, by its magnitude
pub natural_residue : (n : ℤ) (m r : ℕ) → pos 0 ≤ℤ n → r ≡ unsigned_abs n % m → pos r ≡ int_rem_euclid n (pos m)
natural_residue (pos a) m r p e = ap pos e ∙ sym (euclid_natural a m).1
natural_residue (negsuc a) m r p e = absurd (omega (arith, ints, p))

pub negative_residue : (n : ℤ) (m r s : ℕ) → 0 < m → n <ℤ pos 0 → r ≡ unsigned_abs n % m → r < m → s ≡ (0 + (m - r)) % m → pos s ≡ int_rem_euclid n (pos m)
negative_residue (pos a) m r s q p e b f = absurd (omega (arith, ints, p))
negative_residue (negsuc a) m r s q p e b f =
    ap pos f ∙ residue_negation (pos (suc a)) m r q b ((euclid_natural (suc a) m).1 ∙ ap pos (sym e))

-- sums, negations and products
pub sum_residue : (x y : ℤ) (m r s t : ℕ) → 0 < m → pos r ≡ int_rem_euclid x (pos m) → pos s ≡ int_rem_euclid y (pos m) → t ≡ (r + s) % m → pos t ≡ int_rem_euclid (x +ℤ y) (pos m)
sum_residue x y m r s t p e f g = ap pos g ∙ residue_sum x y m r s p (sym e) (sym f)

pub negation_residue : (x : ℤ) (m r t : ℕ) → 0 < m → r < m → pos r ≡ int_rem_euclid x (pos m) → t ≡ (0 + (m - r)) % m → pos t ≡ int_rem_euclid (neg_ℤ x) (pos m)
negation_residue x m r t p b e g = ap pos g ∙ residue_negation x m r p b (sym e)

pub product_residue : (x y : ℤ) (m r s t : ℕ) → 0 < m → pos r ≡ int_rem_euclid x (pos m) → pos s ≡ int_rem_euclid y (pos m) → t ≡ (r * s) % m → pos t ≡ int_rem_euclid (x *ℤ y) (pos m)
product_residue x y m r s t p e f g = ap pos g ∙ residue_product x y m r s p (sym e) (sym f)

-- a residue inside a product
inside : (x c m : ℕ) → (c * (x % m)) % m ≡ (c * x) % m
inside x c m =
    let whole = ap (λ z. c * z) (div-add-mod' x m) in
    let split : c * x ≡ c * (x % m) + c * (x / m) * m = omega arith in
    sym (ap (λ z. z % m) split ∙ add-mul-mod_self_right (c * (x % m)) (c * (x / m)) m)

both_inside : (x y m : ℕ) → ((x % m) * (y % m)) % m ≡ (x * y) % m
both_inside x y m =
    let turned : (x % m) * y ≡ y * (x % m) = omega arith in
    let back : y * x ≡ x * y = omega arith in
    inside y (x % m) m ∙ ap (λ z. z % m) turned ∙ inside x y m ∙ ap (λ z. z % m) back

-- powers
pub power_residue : (x : ℤ) (m r k t : ℕ) → 0 < m → pos r ≡ int_rem_euclid x (pos m) → t ≡ r ^ k % m → pos t ≡ int_rem_euclid (power_of x k) (pos m)
unfolding power_of
power_residue x m r zero t p e g = ap pos (g ∙ ap (λ z. z % m) (pow-zero r)) ∙ sym (euclid_natural 1 m).1
power_residue x m r (suc k) t p e g =
    let less = power_residue x m r k (r ^ k % m) p e refl in
    let turned : r ^ k * r ≡ r * r ^ k = omega arith in
    product_residue x (power_of x k) m r (r ^ k % m) t p e less
    (g ∙ ap (λ z. z % m) (pow-suc r k ∙ turned) ∙ sym (inside (r ^ k) r m))

-- by squaring
pub power_none : (b k m r : ℕ) → k ≡ 0 → r ≡ 1 % m → r ≡ b ^ k % m
power_none b k m r e f = f ∙ ap (λ z. z % m) (sym (ap (λ j. b ^ j) e ∙ pow-zero b))

pub power_square : (b k m h s : ℕ) → h ≡ b ^ (k / 2) % m → s ≡ (h * h) % m → s ≡ b ^ (k / 2 + k / 2) % m
power_square b k m h s e f =
    let j = k / 2 in
    f ∙ ap (λ z. (z * z) % m) e ∙ both_inside (b ^ j) (b ^ j) m ∙ ap (λ z. z % m) (sym (pow-add b j j))

pub power_even : (b k m s : ℕ) → s ≡ b ^ (k / 2 + k / 2) % m → k % 2 ≡ 0 → s ≡ b ^ k % m
power_even b k m s e h =
    let same : k / 2 + k / 2 ≡ k = omega (arith, div-add-mod' k 2) in
    e ∙ ap (λ j. b ^ j % m) same

pub power_odd : (b k m s t : ℕ) → s ≡ b ^ (k / 2 + k / 2) % m → k % 2 ≢ 0 → t ≡ (s * b) % m → t ≡ b ^ k % m
power_odd b k m s t e h f =
    let j = k / 2 + k / 2 in
    let same : suc j ≡ k = omega (arith, div-add-mod' k 2, mod_two k) in
    let turned : b ^ j % m * b ≡ b * (b ^ j % m) = omega arith in
    let back : b * b ^ j ≡ b ^ j * b = omega arith in
    f ∙ ap (λ z. (z * b) % m) e ∙ ap (λ z. z % m) turned ∙ inside (b ^ j) b m ∙ ap (λ z. z % m) (back ∙ sym (pow-suc b j)) ∙ ap (λ i. b ^ i % m) same
  where
    mod_two : (k : ℕ) → k % 2 < 2
    mod_two k = grind arith

differ : (r s : ℕ) → r ≡ s → nat_eq r s ≡ false → ⊥
differ r s same g = grind (arith, nat_tests)

-- a difference is a multiple exactly where the residues are equal
pub multiple_is : (x y : ℤ) (m r s : ℕ) → 0 < m → pos r ≡ int_rem_euclid x (pos m) → pos s ≡ int_rem_euclid y (pos m) → nat_eq r s ≡ is_multiple (pos m) (x -ℤ y)
multiple_is x y m r s p e f = at (nat_eq r s) refl (is_multiple (pos m) (x -ℤ y)) refl
  where
    same_pos : (a b : ℕ) → pos a ≡ pos b → a ≡ b
    same_pos a b h = ap unsigned_abs h

    at : (b : Bool) → nat_eq r s ≡ b → (d : Bool) → is_multiple (pos m) (x -ℤ y) ≡ d → nat_eq r s ≡ is_multiple (pos m) (x -ℤ y)
    at true g true h = g ∙ sym h
    at false g false h = g ∙ sym h
    at true g false h =
        let same : r ≡ s = eqb-true r s g in
        let c = congruent_from_remainder m x y p (sym e ∙ ap pos same ∙ f) in
        g ∙ sym (is_multiple_complete (pos m) (x -ℤ y) (divides_from_congruent (pos m) x y c))
    at false g true h =
        let c = congruent_from_divides (pos m) x y (is_multiple_sound (pos m) (x -ℤ y) h) in
        let same : r ≡ s = same_pos r s (e ∙ remainder_congruent m x y p c ∙ sym f) in
        absurd (differ r s same g)
