-- The adder: sums with carry, differences with borrow and negation, at every width.
use Rattle.std.proofs.Common.{◌≡◌, ℕ, ◌+◌, ◌*◌, ◌^◌, Bool, true, false, not, List, [], ◌∷◌, map, length, replicate, refl, sym, ap, subst, ◌∙◌, arith}
use lib.ListN.{length-replicate}
use Rattle.tcl_bits.specs.Value.{bit_value, unsigned_value}
use Rattle.tcl_bits.specs.Circuit.{xor_bit, major_bit, sum_bits, carry_out, flipped_bits, difference_bits, borrow_out, negation_bits, no_bits}
use Rattle.tcl_bits.proofs.Values.{power_step, bit_flipped, unsigned-flipped, unsigned-clear}

-- one step: the bit and twice the carry are the sum of three bits
digit : (x y carry : Bool) → bit_value (xor_bit (xor_bit x y) carry) + 2 * bit_value (major_bit x y carry) ≡ bit_value x + bit_value y + bit_value carry
digit true true true = refl
digit true true false = refl
digit true false true = refl
digit true false false = refl
digit false true true = refl
digit false true false = refl
digit false false true = refl
digit false false false = refl

-- the bits of the sum, with the carry above them, are the sum
pub adder_law : (xs ys : List Bool) (carry : Bool) → length xs ≡ length ys
    → unsigned_value (sum_bits xs ys carry) + 2 ^ length xs * bit_value (carry_out xs ys carry) ≡ unsigned_value xs + unsigned_value ys + bit_value carry
adder_law [] [] carry e = omega arith
adder_law [] (y ∷ ys) carry e = absurd (omega arith)
adder_law (x ∷ xs) [] carry e = absurd (omega arith)
adder_law (x ∷ xs) (y ∷ ys) carry e =
    let rest = adder_law xs ys (major_bit x y carry) (omega arith) in
    omega (arith, rest, digit x y carry, power_step (length xs) (bit_value (carry_out xs ys (major_bit x y carry))))

-- a sum has as many bits as its operands
pub length-sum_bits : (xs ys : List Bool) (carry : Bool) → length xs ≡ length ys → length (sum_bits xs ys carry) ≡ length xs
length-sum_bits [] ys carry e = refl
length-sum_bits (x ∷ xs) [] carry e = absurd (omega arith)
length-sum_bits (x ∷ xs) (y ∷ ys) carry e = omega (arith, length-sum_bits xs ys (major_bit x y carry) (omega arith))

-- the flipped list is as long
pub length-flipped : (xs : List Bool) → length (map not xs) ≡ length xs
length-flipped [] = refl
length-flipped (x ∷ xs) = omega (arith, length-flipped xs)

-- a difference of words has as many bits as they
pub length-difference_bits : (xs ys : List Bool) (borrow : Bool) → length xs ≡ length ys → length (difference_bits xs ys borrow) ≡ length xs
length-difference_bits xs ys borrow e = length-sum_bits xs (map not ys) (not borrow) (omega (arith, length-flipped ys))

-- arithmetic of a difference: p is 2 ^ w, y' the flipped subtrahend, c the carry of the sum
subtract : (p d x y y' b b' c c' : ℕ) → d + p * c ≡ x + y' + b' → y' + y + 1 ≡ p → b' + b ≡ 1 → c' + c ≡ 1 → d + y + b ≡ x + p * c'
subtract p d x y y' b b' c c' sum all flip turn = let e = ap (λ t. p * t) turn in omega arith

-- the bits of the difference, less the borrow above them, are the difference
pub difference_law : (xs ys : List Bool) (borrow : Bool) → length xs ≡ length ys
    → unsigned_value (difference_bits xs ys borrow) + unsigned_value ys + bit_value borrow ≡ unsigned_value xs + 2 ^ length xs * bit_value (borrow_out xs ys borrow)
difference_law xs ys borrow e =
    subtract (2 ^ length xs) (unsigned_value (difference_bits xs ys borrow)) (unsigned_value xs) (unsigned_value ys) (unsigned_value (map not ys))
    (bit_value borrow) (bit_value (not borrow)) (bit_value (carry_out xs (map not ys) (not borrow))) (bit_value (borrow_out xs ys borrow))
    (adder_law xs (map not ys) (not borrow) (omega (arith, length-flipped ys)))
    (unsigned-flipped ys ∙ ap (λ n. 2 ^ n) (sym e))
    (bit_flipped borrow)
    (bit_flipped (carry_out xs (map not ys) (not borrow)))

negate : (p n x x' c c' z : ℕ) → n + p * c ≡ z + x' + 1 → z ≡ 0 → x' + x + 1 ≡ p → c' + c ≡ 1 → n + x ≡ p * c'
negate p n x x' c c' z sum none all turn = let e = ap (λ t. p * t) turn in omega arith

-- zeros are as long as the word that they are made for
clear_as_long : (xs : List Bool) → length (replicate (length xs) false) ≡ length (map not xs)
clear_as_long xs = omega (arith, length-flipped xs, length-replicate (length xs) false)

-- a negated word has as many bits
pub length-negation_bits : (xs : List Bool) → length (negation_bits xs) ≡ length xs
length-negation_bits xs = length-sum_bits (replicate (length xs) false) (map not xs) true (clear_as_long xs) ∙ length-replicate (length xs) false

-- a number and its negation make 0, or 2 ^ w
pub negation_law : (xs : List Bool) → unsigned_value (negation_bits xs) + unsigned_value xs ≡ 2 ^ length xs * bit_value (not (carry_out (no_bits (length xs)) (flipped_bits xs) true))
negation_law xs =
    let zeros = replicate (length xs) false in
    negate (2 ^ length xs) (unsigned_value (negation_bits xs)) (unsigned_value xs) (unsigned_value (map not xs)) (bit_value (carry_out zeros (map not xs) true))
    (bit_value (not (carry_out zeros (map not xs) true))) (unsigned_value zeros)
    (subst (λ (k : ℕ). unsigned_value (negation_bits xs) + 2 ^ k * bit_value (carry_out zeros (map not xs) true) ≡ unsigned_value zeros + unsigned_value (map not xs) + 1) (length-replicate (length xs) false) (adder_law zeros (map not xs) true (clear_as_long xs)))
    (unsigned-clear (length xs))
    (unsigned-flipped xs)
    (bit_flipped (carry_out zeros (map not xs) true))
