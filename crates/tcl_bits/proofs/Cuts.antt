-- Cutting a word at a bit: the low bits are the remainder, the others the quotient.
use Rattle.std.proofs.Common.{◌≡◌, ℕ, zero, suc, ◌+◌, ◌*◌, ◌/◌, ◌%◌, ◌^◌, ◌<◌, Bool, List, [], ◌∷◌, length, take, drop, refl, sym, ap, subst, ◌∙◌, arith, pow-suc, eqb}
use Rattle.std.proofs.lemmas.Nat.{shr_high, mod_low, pow_pos, mod-pow-add}
use Rattle.tcl_bits.specs.Value.{bit_value, unsigned_value, number_bits}
use Rattle.tcl_bits.proofs.Values.{power_step, bit_most}

-- the low n bits are below 2 ^ n
pub take_below : (n : ℕ) (xs : List Bool) → unsigned_value (take n xs) < 2 ^ n
take_below zero xs = omega arith
take_below (suc n) [] = omega (arith, pow_pos (suc n))
take_below (suc n) (x ∷ xs) = omega (arith, take_below n xs, bit_most x, pow-suc 2 n)

-- a word is its low n bits and 2 ^ n times the others, also where it has fewer
pub split_law : (n : ℕ) (xs : List Bool) → unsigned_value xs ≡ unsigned_value (take n xs) + 2 ^ n * unsigned_value (drop n xs)
split_law zero xs = omega arith
split_law (suc n) [] = omega arith
split_law (suc n) (x ∷ xs) = omega (arith, split_law n xs, power_step n (unsigned_value (drop n xs)))

cut_low : (u low high p n : ℕ) → u ≡ low + p * high → p ≡ 2 ^ n → low < p → u % p ≡ low
cut_low u low high p n e q b = ap (λ t. t % p) (omega arith) ∙ subst (λ (p : ℕ). (high * p + low) % p ≡ low) (sym q) (mod_low high n low (omega arith))

cut_high : (u low high p n : ℕ) → u ≡ low + p * high → p ≡ 2 ^ n → low < p → u / p ≡ high
cut_high u low high p n e q b = ap (λ t. t / p) (omega arith) ∙ subst (λ (p : ℕ). (high * p + low) / p ≡ high) (sym q) (shr_high high n low (omega arith))

-- the low n bits are the number modulo 2 ^ n
pub unsigned-take : (n : ℕ) (xs : List Bool) → unsigned_value (take n xs) ≡ unsigned_value xs % 2 ^ n
unsigned-take n xs = sym (cut_low (unsigned_value xs) (unsigned_value (take n xs)) (unsigned_value (drop n xs)) (2 ^ n) n (split_law n xs) refl (take_below n xs))

-- the bits from n on are the quotient by 2 ^ n
pub unsigned-drop : (n : ℕ) (xs : List Bool) → unsigned_value (drop n xs) ≡ unsigned_value xs / 2 ^ n
unsigned-drop n xs = sym (cut_high (unsigned_value xs) (unsigned_value (take n xs)) (unsigned_value (drop n xs)) (2 ^ n) n (split_law n xs) refl (take_below n xs))

-- number_bits has as many bits as asked for
pub length-number_bits : (width n : ℕ) → length (number_bits width n) ≡ width
length-number_bits zero n = refl
length-number_bits (suc width) n = omega (arith, length-number_bits width (n / 2))

odd_bit : (r : ℕ) → r < 2 → bit_value (eqb r 1) ≡ r
odd_bit zero h = refl
odd_bit (suc zero) h = refl
odd_bit (suc (suc r)) h = absurd (omega arith)

low_digit : (width n : ℕ) → n % 2 ^ suc width ≡ n / 2 % 2 ^ width * 2 + n % 2
low_digit width n = ap (λ k. n % 2 ^ k) (omega arith) ∙ mod-pow-add n width 1

-- the low bits of a number are its remainder
pub unsigned-number_bits : (width n : ℕ) → unsigned_value (number_bits width n) ≡ n % 2 ^ width
unsigned-number_bits zero n = omega arith
unsigned-number_bits (suc width) n =
    omega (arith, unsigned-number_bits width (n / 2), odd_bit (n % 2) (omega arith), low_digit width n)
