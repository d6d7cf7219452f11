-- The lowest bits of an integer's pattern in two's complement are its remainder from 0 up.
use Rattle.std.proofs.Common.{suc-mul, ◌≡◌, ℕ, ◌+◌, ◌-◌, ◌*◌, ◌/◌, ◌%◌, ◌^◌, ◌<◌, ◌≤◌, ◌∙◌, ap, arith, bit_and, ℤ, pos, negsuc, to_z, of_z, SFits}
use Rattle.std.specs.Int.{w128, int_rem_euclid}
use Rattle.std.proofs.Math.Numerals.{add-one}
use Rattle.std.proofs.lemmas.Int.{ints, to_z_pos}
use Rattle.std.proofs.lemmas.Nat.{and_mask, pow_pos, pow_below, pow-add, mod_below, div-mul-add}
use Rattle.tcl_num.specs.Congruence.{Congruent}
use Rattle.tcl_num.proofs.Congruences.{remainder_congruent}

-- 2 ^ 128 is a multiple of each lower power
whole_is : (k : ℕ) → k ≤ 64 → 2 ^ 128 ≡ 2 ^ k * 2 ^ (128 - k)
whole_is k h =
    let e : 128 ≡ k + (128 - k) = omega arith in
    ap (λ n. 2 ^ n) e ∙ pow-add 2 k (128 - k)

-- a pattern differs from the integer by nothing or by 2 ^ 128
pattern_congruent : (k : ℕ) (n : ℤ) → k ≤ 64 → SFits w128 n → Congruent (pos (2 ^ k)) (pos (of_z w128 n)) n
pattern_congruent k (pos a) h fits = (pos 0, omega (arith, ints))
pattern_congruent k (negsuc a) h fits = (pos (2 ^ (128 - k)), omega (arith, ints, fits, whole_is k h))

pub lowest_bits : (k : ℕ) (n : ℤ) → k ≤ 64 → SFits w128 n → to_z w128 (bit_and (of_z w128 n) (2 ^ k - 1)) ≡ int_rem_euclid n (pos (2 ^ k))
lowest_bits k n h fits =
    let small : of_z w128 n % 2 ^ k < 2 ^ k = mod_below (of_z w128 n) (2 ^ k) (pow_pos k) in
    let high : 2 ^ k < 2 ^ 127 = pow_below k 127 (omega arith) in
    ap (to_z w128) (and_mask (of_z w128 n) k) ∙ to_z_pos w128 (of_z w128 n % 2 ^ k) (omega arith)
    ∙ remainder_congruent (2 ^ k) (pos (of_z w128 n)) n (pow_pos k) (pattern_congruent k n h fits)

-- ones that are shifted out leave a mask
less_one : (a w : ℕ) → 0 < w → (a + 1) * w - 1 ≡ a * w + (w - 1)
less_one a w h = let spread : (a + 1) * w ≡ a * w + w = ap (λ n. n * w) (add-one a) ∙ suc-mul a w in omega (arith, h, spread)

mask_by : (whole high low : ℕ) → whole ≡ low * high → 0 < low → 0 < high → (whole - 1) / high ≡ low - 1
mask_by whole high low e some rest =
    let least : low ≡ (low - 1) + 1 = omega (arith, some) in
    ap (λ n. (n - 1) / high) (e ∙ ap (λ n. n * high) least)
    ∙ ap (λ n. n / high) (less_one (low - 1) high rest)
    ∙ div-mul-add (low - 1) high (high - 1) (omega (arith, rest))

pub shifted_mask : (k : ℕ) → k ≤ 64 → (2 ^ 64 - 1) / 2 ^ (64 - k) ≡ 2 ^ k - 1
shifted_mask k h =
    let sums : 64 ≡ k + (64 - k) = omega arith in
    mask_by (2 ^ 64) (2 ^ (64 - k)) (2 ^ k) (ap (λ n. 2 ^ n) sums ∙ pow-add 2 k (64 - k)) (pow_pos k) (pow_pos (64 - k))
