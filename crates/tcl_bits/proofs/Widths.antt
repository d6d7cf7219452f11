-- Words at other widths: low bits as wrapping, extension, shifts, and cutting and joining.
use Rattle.std.proofs.Common.{◌≡◌, ℕ, ◌+◌, ◌-◌, ◌*◌, ◌%◌, ◌^◌, unsigned_abs, mod-eq_of_lt, ◌<◌, ◌≤◌, Bool, true, false, List, ◌++◌, length, take, drop, replicate, sym, ap, subst, ◌∙◌, ⊎_elim, arith, pow-add, take-append-drop, length-take, length-drop, length-append, append-nil, ℤ, pos, ◌+ℤ◌, ◌*ℤ◌}
use borrow.Author.Differences.{product_is}
use lib.ListN.{length-replicate}
use Rattle.std.proofs.lemmas.Int.{ints}
use Rattle.std.proofs.lemmas.Bool.{cases_lt}
use Rattle.tcl_num.specs.Range.{wrapped}
use Rattle.tcl_num.specs.Congruence.{Congruent}
use Rattle.tcl_num.proofs.IntegerRing.{int_mul_assoc}
use Rattle.tcl_num.proofs.Congruences.{congruent_same, congruent_trans, congruent_mul, congruent_remainder}
use Rattle.tcl_num.proofs.EuclideanDivision.{euclid_range}
use Rattle.std.specs.Int.{int_rem_euclid}
use Rattle.std.proofs.lemmas.Nat.{pow_pos}
use Rattle.tcl_bits.specs.Value.{unsigned_value, word_value, number_bits}
use Rattle.tcl_bits.specs.Circuit.{no_bits, fill_bit, extended_bits, shifted_bits}
use Rattle.tcl_bits.proofs.Values.{unsigned-append, unsigned-clear, unsigned_below, same_bits}
use Rattle.tcl_bits.proofs.Cuts.{split_law, length-number_bits, unsigned-number_bits}
use Rattle.tcl_bits.proofs.Signs.{signed-append, extension_law}
use Rattle.tcl_bits.proofs.Words.{word_congruent, congruent_at, word_at, natural_congruent}

-- what is congruent modulo a greater power of two is so modulo a smaller one
pub congruent_narrower : (n w : ℕ) (a b : ℤ) → n ≤ w → Congruent (pos (2 ^ w)) a b → Congruent (pos (2 ^ n)) a b
congruent_narrower n w a b h c =
    let whole : n + (w - n) ≡ w = omega arith in
    let power : pos (2 ^ w) ≡ pos (2 ^ n) *ℤ pos (2 ^ (w - n)) = ap pos (ap (λ k. 2 ^ k) (sym whole) ∙ pow-add 2 n (w - n)) in (
      pos (2 ^ (w - n)) *ℤ c.0,
      c.1 ∙ ap (λ m. b +ℤ m *ℤ c.0) power ∙ ap (λ t. b +ℤ t) (int_mul_assoc (pos (2 ^ n)) (pos (2 ^ (w - n))) c.0),
    )

low_congruent : (n : ℕ) (xs : List Bool) → Congruent (pos (2 ^ n)) (pos (unsigned_value xs)) (pos (unsigned_value (take n xs)))
low_congruent n xs = natural_congruent (2 ^ n) (unsigned_value xs) (unsigned_value (take n xs)) (unsigned_value (drop n xs)) (sym (split_law n xs))

-- the low bits of a word of either kind are congruent to its value
pub take_congruent : (from : Bool) (n : ℕ) (xs : List Bool) → n ≤ length xs → Congruent (pos (2 ^ n)) (word_value from xs) (pos (unsigned_value (take n xs)))
take_congruent from n xs h =
    congruent_trans (pos (2 ^ n)) (word_value from xs) (pos (unsigned_value xs)) (pos (unsigned_value (take n xs)))
    (congruent_narrower n (length xs) (word_value from xs) (pos (unsigned_value xs)) h (word_congruent from xs))
    (low_congruent n xs)

-- the low bits of a word of either kind are its value wrapped into the narrower type
pub take_word : (from to : Bool) (n : ℕ) (xs : List Bool) → 0 < n → n ≤ length xs → word_value to (take n xs) ≡ wrapped to n (word_value from xs)
take_word from to n xs h g = word_at to n (take n xs) (word_value from xs) (length-take n xs ∙ omega arith) h (take_congruent from n xs g)

-- an extended word has the width asked for
pub length-extended_bits : (signed : Bool) (width : ℕ) (xs : List Bool) → length (extended_bits signed width xs) ≡ width
length-extended_bits signed width xs =
    omega (arith, length-append (take width xs) (replicate (width - length xs) (fill_bit signed xs)), length-take width xs, length-replicate (width - length xs) (fill_bit signed xs))

no_more : (width : ℕ) (xs : List Bool) (x : Bool) → width < length xs → take width xs ++ replicate (width - length xs) x ≡ take width xs
no_more width xs x h = let none : width - length xs ≡ 0 = omega arith in ap (λ n. take width xs ++ replicate n x) none ∙ append-nil (take width xs)

-- a word at another width is congruent to its value
pub extended_congruent : (from : Bool) (width : ℕ) (xs : List Bool) → Congruent (pos (2 ^ width)) (word_value from xs) (pos (unsigned_value (extended_bits from width xs)))
extended_congruent from width xs =
    ⊎_elim
    (λ (narrow : width < length xs).
    subst (λ (ys : List Bool). Congruent (pos (2 ^ width)) (word_value from xs) (pos (unsigned_value ys))) (sym (no_more width xs (fill_bit from xs) narrow))
    (take_congruent from width xs (omega arith)))
    (λ (wide : length xs ≤ width).
    subst (λ (v : ℤ). Congruent (pos (2 ^ width)) v (pos (unsigned_value (extended_bits from width xs)))) (extension_law from width xs wide)
    (congruent_at from width (extended_bits from width xs) (length-extended_bits from width xs)))
    (cases_lt width (length xs))

-- a word of either kind at another width, narrower or wider, is its value wrapped into that type
pub extended_word : (from to : Bool) (width : ℕ) (xs : List Bool) → 0 < width → word_value to (extended_bits from width xs) ≡ wrapped to width (word_value from xs)
extended_word from to width xs h =
    word_at to width (extended_bits from width xs) (word_value from xs) (length-extended_bits from width xs) h (extended_congruent from width xs)

-- a shifted word keeps its width
pub length-shifted_bits : (count : ℕ) (xs : List Bool) → count ≤ length xs → length (shifted_bits count xs) ≡ length xs
length-shifted_bits count xs h =
    omega (arith, length-append (no_bits count) (take (length xs - count) xs), length-take (length xs - count) xs, length-replicate count false)

shift_arithmetic : (s p q w u low high : ℕ) → w ≡ p * q → u ≡ low + q * high → s ≡ 0 + p * low → s + w * high ≡ u * p
shift_arithmetic s p q w u low high e f g = let a = ap (λ t. t * p) f in let b = ap (λ t. t * high) e in omega arith

shifted_value : (count : ℕ) (xs : List Bool) → unsigned_value (shifted_bits count xs) ≡ 0 + 2 ^ count * unsigned_value (take (length xs - count) xs)
shifted_value count xs =
    unsigned-append (no_bits count) (take (length xs - count) xs)
    ∙ ap (λ n. unsigned_value (no_bits count) + 2 ^ n * unsigned_value (take (length xs - count) xs)) (length-replicate count false)
    ∙ ap (λ n. n + 2 ^ count * unsigned_value (take (length xs - count) xs)) (unsigned-clear count)

-- a shift up within a word is a product with a power of two
pub shifted_word : (signed : Bool) (count : ℕ) (xs : List Bool) → count ≤ length xs → 0 < length xs
    → word_value signed (shifted_bits count xs) ≡ wrapped signed (length xs) (word_value signed xs *ℤ pos (2 ^ count))
shifted_word signed count xs h g =
    let m = pos (2 ^ length xs) in let left = length xs - count in
    let x = word_value signed xs in let u = pos (unsigned_value xs) in let p = pos (2 ^ count) in
    let whole : count + left ≡ length xs = omega arith in
    word_at signed (length xs) (shifted_bits count xs) (x *ℤ p) (length-shifted_bits count xs h) g
    (congruent_trans m (x *ℤ p) (u *ℤ p) (pos (unsigned_value (shifted_bits count xs)))
    (congruent_mul m x u p p (word_congruent signed xs) (congruent_same m p))
    (natural_congruent (2 ^ length xs) (unsigned_value xs * 2 ^ count) (unsigned_value (shifted_bits count xs)) (unsigned_value (drop left xs))
    (shift_arithmetic (unsigned_value (shifted_bits count xs)) (2 ^ count) (2 ^ left) (2 ^ length xs) (unsigned_value xs) (unsigned_value (take left xs)) (unsigned_value (drop left xs))
    (ap (λ n. 2 ^ n) (sym whole) ∙ pow-add 2 count left) (split_law left xs) (shifted_value count xs))))

natural_join : (u a b v : ℕ) → u ≡ a + b * v → pos u ≡ pos a +ℤ pos b *ℤ pos v
natural_join u a b v e = omega (arith, ints, product_is (pos b) (pos v))

-- a word joined above low bits
pub join_word : (signed : Bool) (low high : List Bool) → 0 < length high → word_value signed (low ++ high) ≡ pos (unsigned_value low) +ℤ pos (2 ^ length low) *ℤ word_value signed high
join_word true low high h = signed-append low high h
join_word false low high h = natural_join (unsigned_value (low ++ high)) (unsigned_value low) (2 ^ length low) (unsigned_value high) (unsigned-append low high)

-- a word cut at a bit: the low bits count plain, the others as a word of its kind
pub split_word : (signed : Bool) (n : ℕ) (xs : List Bool) → n < length xs → word_value signed xs ≡ pos (unsigned_value (take n xs)) +ℤ pos (2 ^ n) *ℤ word_value signed (drop n xs)
split_word signed n xs h =
    let front : length (take n xs) ≡ n = length-take n xs ∙ omega arith in
    ap (λ ys. word_value signed ys) (sym (take-append-drop n xs))
    ∙ join_word signed (take n xs) (drop n xs) (omega (arith, length-drop n xs))
    ∙ ap (λ k. pos (unsigned_value (take n xs)) +ℤ pos (2 ^ k) *ℤ word_value signed (drop n xs)) front

-- the bits of a constant: those of its two's-complement pattern
pub constant_word : (signed : Bool) (width : ℕ) (n : ℤ) → 0 < width → word_value signed (number_bits width (unsigned_abs (int_rem_euclid n (pos (2 ^ width))))) ≡ wrapped signed width n
constant_word signed width n h =
    let r = euclid_range n (2 ^ width) (pow_pos width) in
    let bits = number_bits width (unsigned_abs (int_rem_euclid n (pos (2 ^ width)))) in
    let low : unsigned_abs (int_rem_euclid n (pos (2 ^ width))) ≡ r.0 = ap unsigned_abs r.2 in
    let value : pos (unsigned_value bits) ≡ int_rem_euclid n (pos (2 ^ width)) =
    ap pos (unsigned-number_bits width (unsigned_abs (int_rem_euclid n (pos (2 ^ width)))) ∙ ap (λ k. k % 2 ^ width) low ∙ mod-eq_of_lt r.1) ∙ sym r.2 in
    word_at signed width bits n (length-number_bits width (unsigned_abs (int_rem_euclid n (pos (2 ^ width))))) h
    (subst (λ (v : ℤ). Congruent (pos (2 ^ width)) n v) (sym value) (congruent_remainder (2 ^ width) n (pow_pos width)))

-- a word's bits are those of its unsigned number
pub number_bits_of : (xs : List Bool) → number_bits (length xs) (unsigned_value xs) ≡ xs
number_bits_of xs =
    same_bits (number_bits (length xs) (unsigned_value xs)) xs (length-number_bits (length xs) (unsigned_value xs))
    (unsigned-number_bits (length xs) (unsigned_value xs) ∙ mod-eq_of_lt (unsigned_below xs))
