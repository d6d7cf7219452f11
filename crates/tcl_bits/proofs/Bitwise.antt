-- Bitwise operations on words are those on their unsigned numbers.
use Rattle.std.proofs.Common.{◌≡◌, ℕ, ◌+◌, ◌*◌, ◌/◌, ◌%◌, ◌≤◌, min, max, Bool, true, false, ◌&&◌, ◌||◌, List, [], ◌∷◌, length, refl, ap₂, ◌∙◌, arith, bit_and, bit_or, bit_xor, if◌then◌else◌}
use lib.Bits.{and_step, or_step, xor_step, differ}
use Rattle.tcl_bits.specs.Value.{bit_value, unsigned_value}
use Rattle.tcl_bits.specs.Circuit.{xor_bit, met_bits, chosen_bits}
use Rattle.tcl_bits.proofs.Values.{bit_most}

half : (b n : ℕ) → b ≤ 1 → ((b + 2 * n) / 2 ≡ n) × ((b + 2 * n) % 2 ≡ b)
half b n h = (omega arith, omega arith)

and_digit : (a b m n : ℕ) → a ≤ 1 → b ≤ 1 → bit_and (a + 2 * m) (b + 2 * n) ≡ bit_and m n * 2 + min a b
and_digit a b m n p q =
    let f = half a m p in
    let g = half b n q in
    and_step (a + 2 * m) (b + 2 * n) ∙ ap₂ (λ x y. bit_and x y * 2 + min ((a + 2 * m) % 2) ((b + 2 * n) % 2)) f.0 g.0 ∙ ap₂ (λ x y. bit_and m n * 2 + min x y) f.1 g.1

and_truth : (x y : Bool) → bit_value (x && y) ≡ min (bit_value x) (bit_value y)
and_truth true true = refl
and_truth true false = refl
and_truth false true = refl
and_truth false false = refl

-- the conjunction
pub and_law : (xs ys : List Bool) → length xs ≡ length ys → unsigned_value (met_bits (λ x y. x && y) xs ys) ≡ bit_and (unsigned_value xs) (unsigned_value ys)
and_law [] [] e = refl
and_law [] (y ∷ ys) e = absurd (omega arith)
and_law (x ∷ xs) [] e = absurd (omega arith)
and_law (x ∷ xs) (y ∷ ys) e =
    let rest = and_law xs ys (omega arith) in
    let digit = and_digit (bit_value x) (bit_value y) (unsigned_value xs) (unsigned_value ys) (bit_most x) (bit_most y) in
    omega (arith, rest, digit, and_truth x y)

or_digit : (a b m n : ℕ) → a ≤ 1 → b ≤ 1 → bit_or (a + 2 * m) (b + 2 * n) ≡ bit_or m n * 2 + max a b
or_digit a b m n p q =
    let f = half a m p in
    let g = half b n q in
    or_step (a + 2 * m) (b + 2 * n) ∙ ap₂ (λ x y. bit_or x y * 2 + max ((a + 2 * m) % 2) ((b + 2 * n) % 2)) f.0 g.0 ∙ ap₂ (λ x y. bit_or m n * 2 + max x y) f.1 g.1

or_truth : (x y : Bool) → bit_value (x || y) ≡ max (bit_value x) (bit_value y)
or_truth true true = refl
or_truth true false = refl
or_truth false true = refl
or_truth false false = refl

-- the disjunction
pub or_law : (xs ys : List Bool) → length xs ≡ length ys → unsigned_value (met_bits (λ x y. x || y) xs ys) ≡ bit_or (unsigned_value xs) (unsigned_value ys)
or_law [] [] e = refl
or_law [] (y ∷ ys) e = absurd (omega arith)
or_law (x ∷ xs) [] e = absurd (omega arith)
or_law (x ∷ xs) (y ∷ ys) e =
    let rest = or_law xs ys (omega arith) in
    let digit = or_digit (bit_value x) (bit_value y) (unsigned_value xs) (unsigned_value ys) (bit_most x) (bit_most y) in
    omega (arith, rest, digit, or_truth x y)

xor_digit : (a b m n : ℕ) → a ≤ 1 → b ≤ 1 → bit_xor (a + 2 * m) (b + 2 * n) ≡ bit_xor m n * 2 + differ a b
xor_digit a b m n p q =
    let f = half a m p in
    let g = half b n q in
    xor_step (a + 2 * m) (b + 2 * n) ∙ ap₂ (λ x y. bit_xor x y * 2 + differ ((a + 2 * m) % 2) ((b + 2 * n) % 2)) f.0 g.0 ∙ ap₂ (λ x y. bit_xor m n * 2 + differ x y) f.1 g.1

xor_truth : (x y : Bool) → bit_value (xor_bit x y) ≡ differ (bit_value x) (bit_value y)
xor_truth true true = refl
xor_truth true false = refl
xor_truth false true = refl
xor_truth false false = refl

-- the exclusive disjunction
pub xor_law : (xs ys : List Bool) → length xs ≡ length ys → unsigned_value (met_bits (xor_bit) xs ys) ≡ bit_xor (unsigned_value xs) (unsigned_value ys)
xor_law [] [] e = refl
xor_law [] (y ∷ ys) e = absurd (omega arith)
xor_law (x ∷ xs) [] e = absurd (omega arith)
xor_law (x ∷ xs) (y ∷ ys) e =
    let rest = xor_law xs ys (omega arith) in
    let digit = xor_digit (bit_value x) (bit_value y) (unsigned_value xs) (unsigned_value ys) (bit_most x) (bit_most y) in
    omega (arith, rest, digit, xor_truth x y)

-- words met bit by bit are as long as they
pub length-met_bits : (gate : Bool → Bool → Bool) (xs ys : List Bool) → length xs ≡ length ys → length (met_bits gate xs ys) ≡ length xs
length-met_bits gate [] ys e = refl
length-met_bits gate (x ∷ xs) [] e = absurd (omega arith)
length-met_bits gate (x ∷ xs) (y ∷ ys) e = omega (arith, length-met_bits gate xs ys (omega arith))

same_cons : (x : Bool) (xs ys : List Bool) → xs ≡ ys → x ∷ xs ≡ x ∷ ys
same_cons x xs ys e = cc

-- the choice bit by bit is one of the two words
pub choice_law : (chosen : Bool) (xs ys : List Bool) → length xs ≡ length ys → chosen_bits chosen xs ys ≡ (if chosen then xs else ys)
choice_law true [] ys e = refl
choice_law true (x ∷ xs) [] e = absurd (omega arith)
choice_law true (x ∷ xs) (y ∷ ys) e = same_cons x (chosen_bits true xs ys) xs (choice_law true xs ys (omega arith))
choice_law false [] [] e = refl
choice_law false [] (y ∷ ys) e = absurd (omega arith)
choice_law false (x ∷ xs) [] e = absurd (omega arith)
choice_law false (x ∷ xs) (y ∷ ys) e = same_cons y (chosen_bits false xs ys) ys (choice_law false xs ys (omega arith))
