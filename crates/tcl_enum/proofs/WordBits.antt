-- Bits that a word does not have are 0.
use Rattle.std.proofs.Common.{◌≡◌, ℕ, ◌/◌, ◌%◌, ◌^◌, ◌<◌, ◌≤◌, sym, ap, arith, false, nat_eq}
use Rattle.std.proofs.Math.Nat.{div-eq_of_lt}
use Rattle.std.proofs.Math.Pow.{pow_mono}
use Rattle.tcl_lang.specs.Store.{empty_word}
use Rattle.tcl_goals.specs.Holds.{bit_of}

pub high_bit : (n w k : ℕ) → n < 2 ^ w → w ≤ k → false ≡ nat_eq (n / 2 ^ k % 2) 1
high_bit n w k h g =
    let small : n < 2 ^ k = omega (arith, h, pow_mono g) in
    ap (λ m. nat_eq (m % 2) 1) (sym (div-eq_of_lt small))

pub no_bit : (k : ℕ) → false ≡ bit_of empty_word k
no_bit k = high_bit 0 0 k (omega arith) (omega arith)
