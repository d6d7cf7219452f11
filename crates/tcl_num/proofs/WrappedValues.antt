-- A word's wrapped value is in the word's range, is congruent to the integer, and is the only such value.
use Rattle.std.proofs.Common.{◌≡◌, ℕ, suc, ◌+◌, ◌-◌, ◌^◌, ◌<◌, refl, sym, ◌∙◌, ap, subst, arith, ℤ, pos, negsuc, ◌-ℤ◌, ◌<ℤ◌, ◌≤ℤ◌, neg_ℤ, int_lt, Bool, true, false, if◌then◌else◌}
use Rattle.std.specs.Int.{int_rem_euclid}
use Rattle.std.proofs.lemmas.Int.{ints}
use Rattle.std.proofs.lemmas.Nat.{pow_pos}
use Rattle.std.proofs.Math.Nat.{pow-suc}
use Rattle.tcl_num.specs.Congruence.{Congruent}
use Rattle.tcl_num.specs.Range.{InRange, wrapped}
use Rattle.tcl_num.proofs.EuclideanDivision.{euclid_range, euclid_unique, remainder_small}
use Rattle.tcl_num.proofs.Congruences.{congruent_trans, congruent_remainder, remainder_congruent}

-- a power of two is two times the one before it
pub power_halves : (w : ℕ) → 0 < w → 2 ^ w ≡ 2 ^ (w - 1) + 2 ^ (w - 1)
power_halves w p =
    let before : w ≡ suc (w - 1) = omega arith in
    ap (λ k. 2 ^ k) before ∙ pow-suc 2 (w - 1) ∙ omega arith

-- a remainder as a signed value: below half of the whole it stays
abbrev signed_value : Bool → ℤ → ℕ → ℤ
signed_value t left whole = if t then left else left -ℤ pos whole

-- the signed value of a remainder is in range
signed_in_range : (t : Bool) (r half whole : ℕ) → whole ≡ half + half → r < whole → int_lt (pos r) (pos half) ≡ t → (neg_ℤ (pos half) ≤ℤ signed_value t (pos r) whole) × (signed_value t (pos r) whole <ℤ pos half)
signed_in_range true r half whole e p h = (omega (arith, ints), omega (arith, ints, h))
signed_in_range false r half whole e p h = (omega (arith, ints, h), omega (arith, ints))

pub wrapped_in_range : (signed : Bool) (w : ℕ) (n : ℤ) → 0 < w → InRange signed w (wrapped signed w n)
unfolding wrapped
wrapped_in_range true w n p =
    let r = euclid_range n (2 ^ w) (pow_pos w) in
    let half = 2 ^ (w - 1) in
    let P : ℤ → Type 0 = λ x. InRange true w (signed_value (int_lt x (pos half)) x (2 ^ w)) in
    subst P (sym r.2) (signed_in_range (int_lt (pos r.0) (pos half)) r.0 half (2 ^ w) (power_halves w p) r.1 refl)
wrapped_in_range false w n p =
    let r = euclid_range n (2 ^ w) (pow_pos w) in (omega (arith, ints, r.2), omega (arith, ints, r.1, r.2))

-- the signed value of a remainder differs from it by the whole or not at all
signed_congruent : (t : Bool) (left : ℤ) (whole : ℕ) → Congruent (pos whole) left (signed_value t left whole)
signed_congruent true left whole = (pos 0, omega (arith, ints))
signed_congruent false left whole = (pos 1, omega (arith, ints))

pub wrapped_congruent : (signed : Bool) (w : ℕ) (n : ℤ) → Congruent (pos (2 ^ w)) n (wrapped signed w n)
unfolding wrapped
wrapped_congruent true w n =
    let left = int_rem_euclid n (pos (2 ^ w)) in
    congruent_trans (pos (2 ^ w)) n left (wrapped true w n) (congruent_remainder (2 ^ w) n (pow_pos w))
    (signed_congruent (int_lt left (pos (2 ^ (w - 1)))) left (2 ^ w))
wrapped_congruent false w n = congruent_remainder (2 ^ w) n (pow_pos w)

-- congruent integers have one wrapped value
pub wrapped_same : (signed : Bool) (w : ℕ) (a b : ℤ) → Congruent (pos (2 ^ w)) a b → wrapped signed w a ≡ wrapped signed w b
unfolding wrapped
wrapped_same true w a b c =
    ap (λ x. signed_value (int_lt x (pos (2 ^ (w - 1)))) x (2 ^ w)) (remainder_congruent (2 ^ w) a b (pow_pos w) c)
wrapped_same false w a b c = remainder_congruent (2 ^ w) a b (pow_pos w) c

-- the test on the remainder of a value in range, by the value's sign
positive_choice : (t : Bool) (r half whole : ℕ) → r < half → int_lt (pos r) (pos half) ≡ t → signed_value t (pos r) whole ≡ pos r
positive_choice true r half whole p h = refl
positive_choice false r half whole p h = absurd (omega (arith, ints, h))

negative_choice : (t : Bool) (a half whole : ℕ) → whole ≡ half + half → a < half → int_lt (pos (whole - 1 - a)) (pos half) ≡ t → signed_value t (pos (whole - 1 - a)) whole ≡ negsuc a
negative_choice true a half whole e p h = absurd (omega (arith, ints, h))
negative_choice false a half whole e p h = omega (arith, ints)

-- a value in range is its own wrapped value
pub wrapped_fixed : (signed : Bool) (w : ℕ) (v : ℤ) → 0 < w → InRange signed w v → wrapped signed w v ≡ v
unfolding wrapped
wrapped_fixed false w (pos a) p h = remainder_small a (2 ^ w) (omega (arith, ints, h.1))
wrapped_fixed false w (negsuc a) p h = absurd (omega (arith, ints, h.0))
wrapped_fixed true w (pos a) p h =
    let half = 2 ^ (w - 1) in
    let low : a < half = omega (arith, ints, h.1) in
    ap (λ x. signed_value (int_lt x (pos half)) x (2 ^ w)) (remainder_small a (2 ^ w) (omega (arith, power_halves w p)))
    ∙ positive_choice (int_lt (pos a) (pos half)) a half (2 ^ w) low refl
wrapped_fixed true w (negsuc a) p h =
    let half = 2 ^ (w - 1) in
    let whole = 2 ^ w in
    let low : a < half = omega (arith, ints, h.0) in
    let left : int_rem_euclid (negsuc a) (pos whole) ≡ pos (whole - 1 - a) =
    (euclid_unique (negsuc a) whole (whole - 1 - a) (negsuc 0) (omega (arith, power_halves w p)) (omega (arith, ints, power_halves w p))).0 in
    ap (λ x. signed_value (int_lt x (pos half)) x whole) left
    ∙ negative_choice (int_lt (pos (whole - 1 - a)) (pos half)) a half whole (power_halves w p) low refl

-- the wrapped value is the only value in range that is congruent to n
pub wrapped_only : (signed : Bool) (w : ℕ) (n v : ℤ) → 0 < w → InRange signed w v → Congruent (pos (2 ^ w)) n v → v ≡ wrapped signed w n
wrapped_only signed w n v p h c = sym (wrapped_fixed signed w v p h) ∙ sym (wrapped_same signed w n v c)

-- to wrap twice is to wrap once
pub wrapped_twice : (signed : Bool) (w : ℕ) (n : ℤ) → 0 < w → wrapped signed w (wrapped signed w n) ≡ wrapped signed w n
wrapped_twice signed w n p = wrapped_fixed signed w (wrapped signed w n) p (wrapped_in_range signed w n p)
