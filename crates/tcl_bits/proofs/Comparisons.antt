-- The chains of comparisons: less, unsigned and signed, and equal.
use Rattle.std.proofs.Common.{◌≡◌, ℕ, suc, ◌+◌, ◌*◌, ◌^◌, ◌<◌, Bool, true, false, not, List, [], ◌∷◌, map, length, refl, sym, ap, ◌∙◌, arith, pow-suc, ltb, eqb, ℤ, pos, ◌-ℤ◌, eqb-true, lt-ltb, le-ltb, eq-eqb, ne_eqb, ◌≢◌}
use Rattle.std.specs.Int.RustNames.{int_lt}
use Rattle.std.specs.Ordering.{int_eq}
use Rattle.std.proofs.lemmas.Bool.Decides.{nat_tests, Decides-int_eq}
use Rattle.std.proofs.lemmas.Int.{ints}
use Rattle.tcl_bits.specs.Value.{bit_value, unsigned_value, last_bit, top_bit, signed_value, word_value}
use Rattle.tcl_bits.specs.Circuit.{major_bit, carry_out, difference_bits, borrow_out, less_carry, top_flipped, less_bit, equal_chain, equal_bit}
use Rattle.tcl_bits.proofs.Values.{power_step, bit_flipped, unsigned_below, same_bits}
use Rattle.tcl_bits.proofs.Sums.{difference_law, length-difference_bits}

-- the less chain is the carry of the sum with the flipped bits
pub less_carry_is : (xs ys : List Bool) (carry : Bool) → less_carry xs ys carry ≡ carry_out xs (map not ys) carry
less_carry_is [] ys carry = refl
less_carry_is (x ∷ xs) [] carry = refl
less_carry_is (x ∷ xs) (y ∷ ys) carry = less_carry_is xs ys (major_bit x (not y) carry)

-- a difference without borrow is of a number that is not less
less_test : (p d x y : ℕ) (b : Bool) → d + y ≡ x + p * bit_value b → d < p → b ≡ ltb x y
less_test p d x y true e h = sym (lt-ltb x y (omega arith))
less_test p d x y false e h = sym (le-ltb x y (omega arith))

-- unsigned words: the answer is whether the first number is the lesser
pub less_unsigned_law : (xs ys : List Bool) → length xs ≡ length ys → less_bit false xs ys ≡ ltb (unsigned_value xs) (unsigned_value ys)
less_unsigned_law xs ys e =
    ap not (less_carry_is xs ys true)
    ∙ less_test (2 ^ length xs) (unsigned_value (difference_bits xs ys false)) (unsigned_value xs) (unsigned_value ys) (borrow_out xs ys false)
    (omega (arith, difference_law xs ys false e))
    (omega (arith, unsigned_below (difference_bits xs ys false), ap (λ n. 2 ^ n) (length-difference_bits xs ys false e)))

-- flipping the highest bit adds half the range to a signed number
pub top_flipped_value : (x : Bool) (xs : List Bool)
    → unsigned_value (top_flipped (x ∷ xs)) + 2 ^ suc (length xs) * bit_value (last_bit x xs) ≡ unsigned_value (x ∷ xs) + 2 ^ length xs
top_flipped_value x [] = omega (arith, bit_flipped x)
top_flipped_value x (y ∷ ys) =
    omega (arith, top_flipped_value y ys, power_step (suc (length ys)) (bit_value (last_bit y ys)), pow-suc 2 (length ys))

pub length-top_flipped : (xs : List Bool) → length (top_flipped xs) ≡ length xs
length-top_flipped [] = refl
length-top_flipped (x ∷ []) = refl
length-top_flipped (x ∷ y ∷ ys) = omega (arith, length-top_flipped (y ∷ ys))

signed_test : (x y s t p h a b : ℕ) → s + p * a ≡ x + h → t + p * b ≡ y + h
    → ltb s t ≡ int_lt (pos x -ℤ pos (a * p)) (pos y -ℤ pos (b * p))
signed_test x y s t p h a b e f = grind (arith, ints)

half_flipped : (u p h q : ℕ) (b : ℕ) (s : ℕ) → s + p * b ≡ u + h → p ≡ q → s + q * b ≡ u + h
half_flipped u p h q b s e f = let g = ap (λ t. t * b) f in omega arith

-- signed words: the same, once the highest bits are flipped
pub less_signed_law : (xs ys : List Bool) → length xs ≡ length ys → less_bit true xs ys ≡ int_lt (signed_value xs) (signed_value ys)
less_signed_law [] [] e = refl
less_signed_law [] (y ∷ ys) e = absurd (omega arith)
less_signed_law (x ∷ xs) [] e = absurd (omega arith)
less_signed_law (x ∷ xs) (y ∷ ys) e =
    let same : length xs ≡ length ys = omega arith in
    less_unsigned_law (top_flipped (x ∷ xs)) (top_flipped (y ∷ ys)) (omega (arith, length-top_flipped (x ∷ xs), length-top_flipped (y ∷ ys)))
    ∙ signed_test (unsigned_value (x ∷ xs)) (unsigned_value (y ∷ ys)) (unsigned_value (top_flipped (x ∷ xs))) (unsigned_value (top_flipped (y ∷ ys)))
    (2 ^ suc (length xs)) (2 ^ length xs) (bit_value (last_bit x xs)) (bit_value (last_bit y ys))
    (top_flipped_value x xs)
    (half_flipped (unsigned_value (y ∷ ys)) (2 ^ suc (length ys)) (2 ^ length xs) (2 ^ suc (length xs)) (bit_value (last_bit y ys)) (unsigned_value (top_flipped (y ∷ ys)))
    (omega (arith, top_flipped_value y ys, ap (λ n. 2 ^ n) same)) (ap (λ n. 2 ^ suc n) (sym same)))
    ∙ ap (λ n. int_lt (signed_value (x ∷ xs)) (pos (unsigned_value (y ∷ ys)) -ℤ pos (bit_value (last_bit y ys) * 2 ^ suc n))) same

-- the answer of the less chain, for signed and unsigned words
pub less_law : (signed : Bool) (xs ys : List Bool) → length xs ≡ length ys → less_bit signed xs ys ≡ int_lt (word_value signed xs) (word_value signed ys)
less_law true xs ys e = less_signed_law xs ys e
less_law false xs ys e = less_unsigned_law xs ys e

-- the equal chain holds no more once it is false
equal_lost : (xs ys : List Bool) → equal_chain xs ys false ≡ false
equal_lost [] ys = refl
equal_lost (x ∷ xs) [] = refl
equal_lost (x ∷ xs) (y ∷ ys) = equal_lost xs ys

same_low : (b m n : ℕ) → eqb m n ≡ eqb (b + 2 * m) (b + 2 * n)
same_low b m n = grind (arith, nat_tests)

other_low : (b c m n : ℕ) → b + c ≡ 1 → false ≡ eqb (b + 2 * m) (c + 2 * n)
other_low b c m n e = let apart : b + 2 * m ≢ c + 2 * n = omega arith in sym (ne_eqb (b + 2 * m) (c + 2 * n) apart)

-- the equal chain tells whether the numbers are one
pub equal_unsigned_law : (xs ys : List Bool) → length xs ≡ length ys → equal_bit xs ys ≡ eqb (unsigned_value xs) (unsigned_value ys)
equal_unsigned_law [] [] e = refl
equal_unsigned_law [] (y ∷ ys) e = absurd (omega arith)
equal_unsigned_law (x ∷ xs) [] e = absurd (omega arith)
equal_unsigned_law (true ∷ xs) (true ∷ ys) e = equal_unsigned_law xs ys (omega arith) ∙ same_low 1 (unsigned_value xs) (unsigned_value ys)
equal_unsigned_law (true ∷ xs) (false ∷ ys) e = equal_lost xs ys ∙ other_low 1 0 (unsigned_value xs) (unsigned_value ys) refl
equal_unsigned_law (false ∷ xs) (true ∷ ys) e = equal_lost xs ys ∙ other_low 0 1 (unsigned_value xs) (unsigned_value ys) refl
equal_unsigned_law (false ∷ xs) (false ∷ ys) e = equal_unsigned_law xs ys (omega arith) ∙ same_low 0 (unsigned_value xs) (unsigned_value ys)

test_of : (b c : Bool) → (b ≡ true → c ≡ true) → (c ≡ true → b ≡ true) → b ≡ c
test_of true true f g = refl
test_of true false f g = sym (f refl)
test_of false true f g = g refl
test_of false false f g = refl

int_eq_true : (a b : ℤ) → int_eq a b ≡ true → a ≡ b
int_eq_true a b e = (Decides-int_eq a b).0 e

int_eq_same : (a : ℤ) → int_eq a a ≡ true
int_eq_same a = (Decides-int_eq a a).1 refl

natural_test : (m n : ℕ) → eqb m n ≡ int_eq (pos m) (pos n)
natural_test m n = test_of (eqb m n) (int_eq (pos m) (pos n)) (λ t. (Decides-int_eq (pos m) (pos n)).1 (ap pos (eqb-true m n t))) (λ t. eq-eqb m n (omega (arith, ints, (Decides-int_eq (pos m) (pos n)).0 t)))

-- two signed numbers of w bits are one where their bits are
sign_apart : (x y p : ℕ) (a b : Bool) → x < p → y < p → pos x -ℤ pos (bit_value a * p) ≡ pos y -ℤ pos (bit_value b * p) → x ≡ y
sign_apart x y p true true f g e = omega (arith, ints)
sign_apart x y p true false f g e = absurd (omega (arith, ints))
sign_apart x y p false true f g e = absurd (omega (arith, ints))
sign_apart x y p false false f g e = omega (arith, ints)

-- words of one length with one value are one list of bits
pub same_signed : (xs ys : List Bool) → length xs ≡ length ys → signed_value xs ≡ signed_value ys → unsigned_value xs ≡ unsigned_value ys
same_signed xs ys e h =
    sign_apart (unsigned_value xs) (unsigned_value ys) (2 ^ length xs) (top_bit xs) (top_bit ys) (unsigned_below xs)
    (omega (arith, unsigned_below ys, ap (λ n. 2 ^ n) e)) (h ∙ ap (λ n. pos (unsigned_value ys) -ℤ pos (bit_value (top_bit ys) * 2 ^ n)) (sym e))

-- the answer of the equal chain, for signed and unsigned words
pub equal_law : (signed : Bool) (xs ys : List Bool) → length xs ≡ length ys → equal_bit xs ys ≡ int_eq (word_value signed xs) (word_value signed ys)
equal_law true xs ys e =
    equal_unsigned_law xs ys e
    ∙ test_of (eqb (unsigned_value xs) (unsigned_value ys)) (int_eq (signed_value xs) (signed_value ys))
    (λ t. ap (λ zs. int_eq (signed_value xs) (signed_value zs)) (sym (same_bits xs ys e (eqb-true (unsigned_value xs) (unsigned_value ys) t))) ∙ int_eq_same (signed_value xs))
    (λ t. eq-eqb (unsigned_value xs) (unsigned_value ys) (same_signed xs ys e (int_eq_true (signed_value xs) (signed_value ys) t)))
equal_law false xs ys e = equal_unsigned_law xs ys e ∙ natural_test (unsigned_value xs) (unsigned_value ys)
