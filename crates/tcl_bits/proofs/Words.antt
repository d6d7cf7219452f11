-- What circuits compute on words of a type: the wrapped value of the integers that they compute.
use Rattle.std.proofs.Common.{◌≡◌, ℕ, suc, ◌+◌, ◌*◌, ◌&&◌, ◌||◌, bit_and, bit_or, bit_xor, ◌^◌, ◌<◌, ◌≤◌, Bool, true, false, not, List, [], ◌∷◌, length, sym, ap, subst, ◌∙◌, arith, pow-suc, ℤ, pos, ◌+ℤ◌, ◌-ℤ◌, ◌*ℤ◌, neg_ℤ, ◌≤ℤ◌, ◌<ℤ◌}
use borrow.Author.Differences.{neg_is, product_is}
use Rattle.std.proofs.lemmas.Int.{ints}
use Rattle.std.specs.Int.{int_rem_euclid}
use Rattle.tcl_num.specs.Range.{InRange, wrapped}
use Rattle.tcl_num.specs.Congruence.{Congruent}
use Rattle.tcl_num.proofs.Congruences.{congruent_same, congruent_sym, congruent_trans, congruent_add, congruent_sub, congruent_neg, congruent_mul, remainder_congruent}
use Rattle.tcl_num.proofs.EuclideanDivision.{remainder_small}
use Rattle.std.proofs.lemmas.Nat.{pow_pos}
use Rattle.tcl_num.proofs.WrappedValues.{wrapped_only}
use Rattle.tcl_bits.specs.Value.{bit_value, unsigned_value, last_bit, top_bit, signed_value, word_value}
use Rattle.tcl_bits.specs.Circuit.{sum_bits, carry_out, difference_bits, borrow_out, negation_bits, product_bits, flipped_bits, no_bits, met_bits, xor_bit}
use Rattle.tcl_bits.proofs.Values.{unsigned_below, unsigned-flipped}
use Rattle.tcl_bits.proofs.Sums.{adder_law, difference_law, negation_law, length-sum_bits, length-difference_bits, length-negation_bits, length-flipped}
use Rattle.tcl_bits.proofs.Products.{product_law, length-product_bits}
use Rattle.tcl_bits.proofs.Bitwise.{and_law, or_law, xor_law, length-met_bits}
use Rattle.tcl_bits.proofs.Signs.{last_most, last_least}

less_whole : (u p b : ℕ) → pos u -ℤ pos (b * p) ≡ pos u +ℤ pos p *ℤ neg_ℤ (pos b)
less_whole u p b = let n = neg_is (pos b) in omega (arith, ints, product_is (pos p) (neg_ℤ (pos b)), ap (λ t. p * t) n.0, ap (λ t. p * t) n.1)

-- a word's value is its unsigned number, up to a multiple of 2 ^ w
pub word_congruent : (signed : Bool) (xs : List Bool) → Congruent (pos (2 ^ length xs)) (word_value signed xs) (pos (unsigned_value xs))
word_congruent true xs = (neg_ℤ (pos (bit_value (top_bit xs))), less_whole (unsigned_value xs) (2 ^ length xs) (bit_value (top_bit xs)))
word_congruent false xs = congruent_same (pos (2 ^ length xs)) (pos (unsigned_value xs))

signed_bounds : (u h p : ℕ) (b : Bool) → p ≡ h * 2 → h * bit_value b ≤ u → u < h * bit_value b + h
    → (neg_ℤ (pos h) ≤ℤ (pos u -ℤ pos (bit_value b * p))) × ((pos u -ℤ pos (bit_value b * p)) <ℤ pos h)
signed_bounds u h p true e f g = (omega (arith, ints), omega (arith, ints))
signed_bounds u h p false e f g = (omega (arith, ints), omega (arith, ints))

-- a word's value lies in the range of its type
pub word_in_range : (signed : Bool) (xs : List Bool) → 0 < length xs → InRange signed (length xs) (word_value signed xs)
word_in_range signed [] h = absurd (omega arith)
word_in_range true (x ∷ xs) h =
    subst (λ (k : ℕ). (neg_ℤ (pos (2 ^ k)) ≤ℤ signed_value (x ∷ xs)) × (signed_value (x ∷ xs) <ℤ pos (2 ^ k))) (omega arith)
    (signed_bounds (unsigned_value (x ∷ xs)) (2 ^ length xs) (2 ^ suc (length xs)) (last_bit x xs) (pow-suc 2 (length xs)) (last_most x xs) (last_least x xs))
word_in_range false (x ∷ xs) h = (omega (arith, ints), omega (arith, ints, unsigned_below (x ∷ xs)))

-- the word with the bits of an integer has its wrapped value
pub word_wraps : (signed : Bool) (xs : List Bool) (n : ℤ) → 0 < length xs → Congruent (pos (2 ^ length xs)) n (pos (unsigned_value xs))
    → word_value signed xs ≡ wrapped signed (length xs) n
word_wraps signed xs n h e =
    let p = pos (2 ^ length xs) in
    wrapped_only signed (length xs) n (word_value signed xs) h (word_in_range signed xs h)
    (congruent_trans p n (pos (unsigned_value xs)) (word_value signed xs) e (congruent_sym p (word_value signed xs) (pos (unsigned_value xs)) (word_congruent signed xs)))

-- congruence of natural numbers
pub natural_congruent : (m a b k : ℕ) → b + m * k ≡ a → Congruent (pos m) (pos a) (pos b)
natural_congruent m a b k e = (pos k, omega (arith, ints, product_is (pos m) (pos k)))

-- the same two laws where the width has a name
pub word_at : (signed : Bool) (w : ℕ) (xs : List Bool) (n : ℤ) → length xs ≡ w → 0 < w → Congruent (pos (2 ^ w)) n (pos (unsigned_value xs)) → word_value signed xs ≡ wrapped signed w n
word_at signed w xs n e =
    subst (λ (w : ℕ). 0 < w → Congruent (pos (2 ^ w)) n (pos (unsigned_value xs)) → word_value signed xs ≡ wrapped signed w n) e (word_wraps signed xs n)

pub congruent_at : (signed : Bool) (w : ℕ) (xs : List Bool) → length xs ≡ w → Congruent (pos (2 ^ w)) (word_value signed xs) (pos (unsigned_value xs))
congruent_at signed w xs e = subst (λ (w : ℕ). Congruent (pos (2 ^ w)) (word_value signed xs) (pos (unsigned_value xs))) e (word_congruent signed xs)

-- a sum with carry
pub sum_word : (signed : Bool) (xs ys : List Bool) (carry : Bool) → length xs ≡ length ys → 0 < length xs
    → word_value signed (sum_bits xs ys carry) ≡ wrapped signed (length xs) ((word_value signed xs +ℤ word_value signed ys) +ℤ pos (bit_value carry))
sum_word signed xs ys carry e h =
    let m = pos (2 ^ length xs) in
    let x = word_value signed xs in let y = word_value signed ys in let c = pos (bit_value carry) in
    let u = pos (unsigned_value xs) in let v = pos (unsigned_value ys) in
    let operands = congruent_add m (x +ℤ y) (u +ℤ v) c c (congruent_add m x u y v (word_congruent signed xs) (congruent_at signed (length xs) ys (sym e))) (congruent_same m c) in
    word_at signed (length xs) (sum_bits xs ys carry) ((x +ℤ y) +ℤ c) (length-sum_bits xs ys carry e) h
    (congruent_trans m ((x +ℤ y) +ℤ c) ((u +ℤ v) +ℤ c) (pos (unsigned_value (sum_bits xs ys carry))) operands
    (natural_congruent (2 ^ length xs) (unsigned_value xs + unsigned_value ys + bit_value carry) (unsigned_value (sum_bits xs ys carry)) (bit_value (carry_out xs ys carry)) (adder_law xs ys carry e)))

borrowed : (m d x y b k : ℕ) → d + y + b ≡ x + m * k → Congruent (pos m) ((pos x -ℤ pos y) -ℤ pos b) (pos d)
borrowed m d x y b k e = let n = neg_is (pos k) in
    (neg_ℤ (pos k), omega (arith, ints, product_is (pos m) (neg_ℤ (pos k)), ap (λ t. m * t) n.0, ap (λ t. m * t) n.1))

-- a difference with borrow
pub difference_word : (signed : Bool) (xs ys : List Bool) (borrow : Bool) → length xs ≡ length ys → 0 < length xs
    → word_value signed (difference_bits xs ys borrow) ≡ wrapped signed (length xs) ((word_value signed xs -ℤ word_value signed ys) -ℤ pos (bit_value borrow))
difference_word signed xs ys borrow e h =
    let m = pos (2 ^ length xs) in
    let x = word_value signed xs in let y = word_value signed ys in let b = pos (bit_value borrow) in
    let u = pos (unsigned_value xs) in let v = pos (unsigned_value ys) in
    let operands = congruent_sub m (x -ℤ y) (u -ℤ v) b b (congruent_sub m x u y v (word_congruent signed xs) (congruent_at signed (length xs) ys (sym e))) (congruent_same m b) in
    word_at signed (length xs) (difference_bits xs ys borrow) ((x -ℤ y) -ℤ b) (length-difference_bits xs ys borrow e) h
    (congruent_trans m ((x -ℤ y) -ℤ b) ((u -ℤ v) -ℤ b) (pos (unsigned_value (difference_bits xs ys borrow))) operands
    (borrowed (2 ^ length xs) (unsigned_value (difference_bits xs ys borrow)) (unsigned_value xs) (unsigned_value ys) (bit_value borrow) (bit_value (borrow_out xs ys borrow)) (difference_law xs ys borrow e)))

negated : (m n x k : ℕ) → n + x ≡ m * k → Congruent (pos m) (neg_ℤ (pos x)) (pos n)
negated m n x k e = let t = neg_is (pos k) in
    (neg_ℤ (pos k), omega (arith, ints, product_is (pos m) (neg_ℤ (pos k)), ap (λ s. m * s) t.0, ap (λ s. m * s) t.1))

-- a negation
pub negation_word : (signed : Bool) (xs : List Bool) → 0 < length xs → word_value signed (negation_bits xs) ≡ wrapped signed (length xs) (neg_ℤ (word_value signed xs))
negation_word signed xs h =
    let m = pos (2 ^ length xs) in let x = word_value signed xs in let u = pos (unsigned_value xs) in
    word_at signed (length xs) (negation_bits xs) (neg_ℤ x) (length-negation_bits xs) h
    (congruent_trans m (neg_ℤ x) (neg_ℤ u) (pos (unsigned_value (negation_bits xs))) (congruent_neg m x u (word_congruent signed xs))
    (negated (2 ^ length xs) (unsigned_value (negation_bits xs)) (unsigned_value xs) (bit_value (not (carry_out (no_bits (length xs)) (flipped_bits xs) true))) (negation_law xs)))

-- every bit flipped: -1 less the number
pub flipped_word : (signed : Bool) (xs : List Bool) → 0 < length xs → word_value signed (flipped_bits xs) ≡ wrapped signed (length xs) (neg_ℤ (word_value signed xs) -ℤ pos 1)
flipped_word signed xs h =
    let m = pos (2 ^ length xs) in let x = word_value signed xs in let u = pos (unsigned_value xs) in
    word_at signed (length xs) (flipped_bits xs) (neg_ℤ x -ℤ pos 1) (length-flipped xs) h
    (congruent_trans m (neg_ℤ x -ℤ pos 1) (neg_ℤ u -ℤ pos 1) (pos (unsigned_value (flipped_bits xs)))
    (congruent_sub m (neg_ℤ x) (neg_ℤ u) (pos 1) (pos 1) (congruent_neg m x u (word_congruent signed xs)) (congruent_same m (pos 1)))
    (flip_whole (2 ^ length xs) (unsigned_value (flipped_bits xs)) (unsigned_value xs) (unsigned-flipped xs)))
  where
    flip_whole : (m n x : ℕ) → n + x + 1 ≡ m → Congruent (pos m) (neg_ℤ (pos x) -ℤ pos 1) (pos n)
    flip_whole m n x e = (neg_ℤ (pos 1), omega (arith, ints, product_is (pos m) (neg_ℤ (pos 1))))

-- a product
pub product_word : (signed : Bool) (xs ys : List Bool) → length xs ≡ length ys → 0 < length xs
    → word_value signed (product_bits xs ys) ≡ wrapped signed (length xs) (word_value signed xs *ℤ word_value signed ys)
product_word signed xs ys e h =
    let m = pos (2 ^ length xs) in
    let x = word_value signed xs in let y = word_value signed ys in
    let u = pos (unsigned_value xs) in let v = pos (unsigned_value ys) in
    let p = product_law xs ys (omega arith) in
    word_at signed (length xs) (product_bits xs ys) (x *ℤ y) (length-product_bits xs ys (omega arith)) h
    (congruent_trans m (x *ℤ y) (u *ℤ v) (pos (unsigned_value (product_bits xs ys)))
    (congruent_mul m x u y v (word_congruent signed xs) (congruent_at signed (length xs) ys (sym e)))
    (natural_congruent (2 ^ length xs) (unsigned_value xs * unsigned_value ys) (unsigned_value (product_bits xs ys)) p.0 p.1))

-- the unsigned number of a word is its value modulo 2 ^ w: the two's-complement pattern
pub pattern_law : (signed : Bool) (xs : List Bool) → int_rem_euclid (word_value signed xs) (pos (2 ^ length xs)) ≡ pos (unsigned_value xs)
pattern_law signed xs =
    remainder_congruent (2 ^ length xs) (word_value signed xs) (pos (unsigned_value xs)) (pow_pos (length xs)) (word_congruent signed xs)
    ∙ remainder_small (unsigned_value xs) (2 ^ length xs) (unsigned_below xs)

-- a word whose unsigned number is this one
pub pattern_word : (signed : Bool) (xs : List Bool) (w n : ℕ) → length xs ≡ w → 0 < w → unsigned_value xs ≡ n → word_value signed xs ≡ wrapped signed w (pos n)
pattern_word signed xs w n e h f =
    word_at signed w xs (pos n) e h (subst (λ (k : ℕ). Congruent (pos (2 ^ w)) (pos k) (pos (unsigned_value xs))) f (congruent_same (pos (2 ^ w)) (pos (unsigned_value xs))))

-- bitwise operations on words, by their patterns
pub and_word : (signed : Bool) (xs ys : List Bool) → length xs ≡ length ys → 0 < length xs → word_value signed (met_bits (λ x y. x && y) xs ys) ≡ wrapped signed (length xs) (pos (bit_and (unsigned_value xs) (unsigned_value ys)))
and_word signed xs ys e h = pattern_word signed (met_bits (λ x y. x && y) xs ys) (length xs) (bit_and (unsigned_value xs) (unsigned_value ys)) (length-met_bits (λ x y. x && y) xs ys e) h (and_law xs ys e)

pub or_word : (signed : Bool) (xs ys : List Bool) → length xs ≡ length ys → 0 < length xs → word_value signed (met_bits (λ x y. x || y) xs ys) ≡ wrapped signed (length xs) (pos (bit_or (unsigned_value xs) (unsigned_value ys)))
or_word signed xs ys e h = pattern_word signed (met_bits (λ x y. x || y) xs ys) (length xs) (bit_or (unsigned_value xs) (unsigned_value ys)) (length-met_bits (λ x y. x || y) xs ys e) h (or_law xs ys e)

pub xor_word : (signed : Bool) (xs ys : List Bool) → length xs ≡ length ys → 0 < length xs → word_value signed (met_bits xor_bit xs ys) ≡ wrapped signed (length xs) (pos (bit_xor (unsigned_value xs) (unsigned_value ys)))
xor_word signed xs ys e h = pattern_word signed (met_bits xor_bit xs ys) (length xs) (bit_xor (unsigned_value xs) (unsigned_value ys)) (length-met_bits xor_bit xs ys e) h (xor_law xs ys e)
