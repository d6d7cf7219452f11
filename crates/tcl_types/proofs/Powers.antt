-- An integer of 128 bits is below 2 ^ 127, and so below each greater power of two. It is from - 2 ^ 127 on.
use Rattle.std.proofs.Common.{◌≡◌, ℕ, ◌^◌, ◌<◌, ◌≤◌, true, arith, ℤ, pos, neg_ℤ}
use Rattle.std.specs.Prelude.{int_lt, int_le}
use Rattle.std.specs.Int.{w128}
use Rattle.std.specs.Int.Signed.{mag}
use Rattle.std.proofs.lemmas.Int.{ints}
use Rattle.std.proofs.Math.Nat.{pow-le-pow_right}
use mir.Val.{SFits}

grows : (k : ℕ) → 127 ≤ k → 2 ^ 127 ≤ 2 ^ k
grows k h = pow-le-pow_right {n = 2} (omega arith) {i = 127} {j = k} h

pub below_power : (n : ℤ) (k : ℕ) → SFits w128 n → 127 ≤ k → int_lt n (pos (2 ^ k)) ≡ true
below_power n k fits h =
    let small : mag n < 2 ^ 127 = fits.sfits in
    let more : 2 ^ 127 ≤ 2 ^ k = grows k h in
    grind (arith, ints)

pub from_negated_power : (n : ℤ) (k : ℕ) → SFits w128 n → 127 ≤ k → int_le (neg_ℤ (pos (2 ^ k))) n ≡ true
from_negated_power n k fits h =
    let small : mag n < 2 ^ 127 = fits.sfits in
    let more : 2 ^ 127 ≤ 2 ^ k = grows k h in
    grind (arith, ints)
