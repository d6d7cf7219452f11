-- Laws of lists of bits as numbers: their range, and how they are cut and joined.
use Rattle.std.proofs.Common.{◌≡◌, ℕ, zero, suc, ◌+◌, ◌*◌, ◌^◌, ◌<◌, ◌≤◌, Bool, true, false, not, List, [], ◌∷◌, ◌++◌, length, replicate, refl, ap, arith, pow-suc}
use Rattle.tcl_bits.specs.Value.{bit_value, unsigned_value}
use Rattle.tcl_bits.specs.Circuit.{flipped_bits}

-- a bit is 0 or 1
pub bit_most : (x : Bool) → bit_value x ≤ 1
bit_most true = omega arith
bit_most false = omega arith

-- a bit and its flipped one make 1
pub bit_flipped : (x : Bool) → bit_value (not x) + bit_value x ≡ 1
bit_flipped true = refl
bit_flipped false = refl

-- 2 ^ suc k times a number
pub power_step : (k n : ℕ) → 2 ^ suc k * n ≡ 2 * (2 ^ k * n)
power_step k n = let e = ap (λ p. p * n) (pow-suc 2 k) in omega (arith, e)

-- an unsigned number of w bits is below 2 ^ w
pub unsigned_below : (xs : List Bool) → unsigned_value xs < 2 ^ length xs
unsigned_below [] = omega arith
unsigned_below (x ∷ xs) = omega (arith, unsigned_below xs, bit_most x, pow-suc 2 (length xs))

-- joined lists: the second counts from the first's width on
pub unsigned-append : (xs ys : List Bool) → unsigned_value (xs ++ ys) ≡ unsigned_value xs + 2 ^ length xs * unsigned_value ys
unsigned-append [] ys = omega arith
unsigned-append (x ∷ xs) ys = omega (arith, unsigned-append xs ys, power_step (length xs) (unsigned_value ys))

-- the flipped bits of n are those of 2 ^ w - 1 - n
pub unsigned-flipped : (xs : List Bool) → unsigned_value (flipped_bits xs) + unsigned_value xs + 1 ≡ 2 ^ length xs
unsigned-flipped [] = refl
unsigned-flipped (x ∷ xs) = omega (arith, unsigned-flipped xs, bit_flipped x, pow-suc 2 (length xs))

-- no bit set is zero
pub unsigned-clear : (n : ℕ) → unsigned_value (replicate n false) ≡ 0
unsigned-clear zero = refl
unsigned-clear (suc n) = omega (arith, unsigned-clear n)

-- every bit set is the greatest number
pub unsigned-full : (n : ℕ) → unsigned_value (replicate n true) + 1 ≡ 2 ^ n
unsigned-full zero = refl
unsigned-full (suc n) = omega (arith, unsigned-full n, pow-suc 2 n)

same_bit : (x y : Bool) (m n : ℕ) → bit_value x + 2 * m ≡ bit_value y + 2 * n → (x ≡ y) × (m ≡ n)
same_bit true true m n e = (refl, omega arith)
same_bit true false m n e = absurd (omega arith)
same_bit false true m n e = absurd (omega arith)
same_bit false false m n e = (refl, omega arith)

same_cons : (x y : Bool) (xs ys : List Bool) → x ≡ y → xs ≡ ys → x ∷ xs ≡ y ∷ ys
same_cons x y xs ys e h = cc

-- two lists of one length with one number are one list
pub same_bits : (xs ys : List Bool) → length xs ≡ length ys → unsigned_value xs ≡ unsigned_value ys → xs ≡ ys
same_bits [] [] e h = refl
same_bits [] (y ∷ ys) e h = absurd (omega arith)
same_bits (x ∷ xs) [] e h = absurd (omega arith)
same_bits (x ∷ xs) (y ∷ ys) e h =
    let s = same_bit x y (unsigned_value xs) (unsigned_value ys) h in
    same_cons x y xs ys s.0 (same_bits xs ys (omega arith) s.1)
