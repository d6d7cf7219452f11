-- The bits of the results are those of the values that the instruction computes.
use Rattle.std.proofs.Common.{◌≡◌, ℕ, ◌+◌, ◌-◌, ◌*◌, ◌^◌, ◌<◌, Bool, true, false, not, ◌==◌, List, [], ◌∷◌, ◌++◌, length, take, drop, refl, sym, ◌∙◌, ap, ap₂, subst, arith, cond, unsigned_abs, length-take, length-drop, length-append, ℤ, pos, neg_ℤ, ◌+ℤ◌, ◌-ℤ◌, ◌*ℤ◌}
use Rattle.std.proofs.lemmas.Int.{ints}
use Rattle.std.specs.Int.{int_div_euclid, int_rem_euclid}
use Rattle.tcl_num.specs.Range.{wrapped}
use Rattle.tcl_num.proofs.EuclideanDivision.{euclid_unique}
use Rattle.tcl_num.proofs.IntegerRing.{int_mul_neg, int_neg_neg, int_add_comm}
use Rattle.tcl_bits.proofs.Values.{unsigned_below, unsigned-flipped}
use Rattle.tcl_bits.proofs.Signs.{extension_law}
use Rattle.tcl_bits.proofs.Bitwise.{choice_law}
use Rattle.tcl_lang.specs.Store.{pattern_of}
use Rattle.tcl_lang.specs.declared.ty.Ty.{Ty}
use Rattle.tcl_lang.specs.Types.{wrap_of, bit_type, unsigned_of, double_of}
use Rattle.tcl_lang.specs.Results.{parts_of, borrow_of}
use Rattle.tcl_bits.specs.Value.{bit_value, unsigned_value, word_value}
use Rattle.tcl_bits.specs.Circuit.{sum_bits, carry_out, difference_bits, borrow_out, product_bits, extended_bits, shifted_bits, flipped_bits, chosen_bits}
use Rattle.tcl_bits.specs.Exactness.{full_product}
use Rattle.tcl_bits.proofs.Sums.{adder_law, length-sum_bits, length-difference_bits, difference_law, length-flipped}
use Rattle.tcl_bits.proofs.Words.{sum_word, difference_word, product_word, pattern_law, pattern_word}
use Rattle.tcl_bits.proofs.Products.{length-product_bits}
use Rattle.tcl_bits.proofs.ExactResults.{product_full}
use Rattle.tcl_bits.proofs.Cuts.{take_below}
use Rattle.tcl_bits.proofs.Widths.{length-extended_bits, extended_word, split_word, join_word, shifted_word, length-shifted_bits}
use Rattle.tcl_words.specs.Instructions.{first_bit}
use Rattle.tcl_words.specs.Words.{IsWord, AreWords}
use Rattle.tcl_words.specs.Words.AreWords.{none, word}

plus_none : (n : ℤ) → n +ℤ pos 0 ≡ n
plus_none n = omega (arith, ints)

minus_none : (n : ℤ) → n -ℤ pos 0 ≡ n
minus_none n = omega (arith, ints)

-- a word of one bit
pub bit_is : {bits : List Bool} {c : ℤ} → IsWord bit_type bits c → pos (bit_value (first_bit bits)) ≡ c
bit_is {bits} {c} h = bit_at bits h.length ∙ h.value
  where
    bit_at : (bits : List Bool) → length bits ≡ 1 → pos (bit_value (first_bit bits)) ≡ pos (unsigned_value bits)
    bit_at (b ∷ []) e = ap pos (omega arith)
    bit_at [] e = absurd (omega (arith, e))
    bit_at (b ∷ d ∷ bits) e = absurd (omega (arith, e))

pub one_bit : (b : Bool) → IsWord bit_type (b ∷ []) (pos (bit_value b))
one_bit b = record { length = refl; value = ap pos (omega arith) }

word_is : {T : Ty} {bits : List Bool} {m n : ℤ} → m ≡ n → IsWord T bits m → IsWord T bits n
word_is {T} {bits} e h = record { length = h.length; value = h.value ∙ e }

-- the sum that wraps
pub sum_is : {T : Ty} {xs ys : List Bool} {x y : ℤ} (k : Bool) → 0 < T.width → IsWord T xs x → IsWord T ys y → IsWord T (sum_bits xs ys k) (wrap_of T (x +ℤ y +ℤ pos (bit_value k)))
sum_is {T} {xs} {ys} {x} {y} k p a b = record {
  length = length-sum_bits xs ys k (a.length ∙ sym b.length) ∙ a.length;
  value =
      sum_word T.signed xs ys k (a.length ∙ sym b.length) (subst (λ n. 0 < n) (sym a.length) p)
      ∙ ap₂ (λ w n. wrapped T.signed w n) a.length (ap₂ (λ u v. u +ℤ v +ℤ pos (bit_value k)) a.value b.value);
}

pub difference_is : {T : Ty} {xs ys : List Bool} {x y : ℤ} (k : Bool) → 0 < T.width → IsWord T xs x → IsWord T ys y → IsWord T (difference_bits xs ys k) (wrap_of T (x -ℤ y -ℤ pos (bit_value k)))
difference_is {T} {xs} {ys} {x} {y} k p a b = record {
  length = length-difference_bits xs ys k (a.length ∙ sym b.length) ∙ a.length;
  value =
      difference_word T.signed xs ys k (a.length ∙ sym b.length) (subst (λ n. 0 < n) (sym a.length) p)
      ∙ ap₂ (λ w n. wrapped T.signed w n) a.length (ap₂ (λ u v. u -ℤ v -ℤ pos (bit_value k)) a.value b.value);
}

-- the high part and the remainder
parts_are : (k r : ℕ) (n q : ℤ) → r < 2 ^ k → n ≡ pos r +ℤ pos (2 ^ k) *ℤ q → (int_div_euclid n (pos (2 ^ k)) ≡ q) × (int_rem_euclid n (pos (2 ^ k)) ≡ pos r)
parts_are k r n q h e = let u = euclid_unique n (2 ^ k) r q h e in (u.1, u.0)

false_is : (b : Bool) → not b ≡ true → b ≡ false
false_is false e = refl
false_is true e = absurd (no_true e)
  where
    no_true : false ≡ true → ⊥
    no_true e = cc

unsigned_is : (s : Bool) (xs : List Bool) → not s ≡ true → word_value s xs ≡ pos (unsigned_value xs)
unsigned_is s xs e = ap (λ t. word_value t xs) (false_is s e)

whole_sum : (m u x y b c : ℕ) → u + m * c ≡ x + y + b → pos x +ℤ pos y +ℤ pos b ≡ pos u +ℤ pos m *ℤ pos c
whole_sum m u x y b c e = ap pos (sym e)

whole_difference : (m u x y b c : ℕ) → u + y + b ≡ x + m * c → pos x -ℤ pos y -ℤ pos b ≡ pos u +ℤ pos m *ℤ neg_ℤ (pos c)
whole_difference m u x y b c e = omega (arith, ints, int_mul_neg (pos m) (pos c))

below_at : (w : ℕ) (xs : List Bool) → length xs ≡ w → unsigned_value xs < 2 ^ w
below_at w xs e = subst (λ n. unsigned_value xs < 2 ^ n) e (unsigned_below xs)

unsigned_of_word : {T : Ty} {xs : List Bool} {x : ℤ} → not T.signed ≡ true → IsWord T xs x → x ≡ pos (unsigned_value xs)
unsigned_of_word {T} {xs} u a = sym a.value ∙ unsigned_is T.signed xs u

-- the carry, then the sum
pub carry_words : {T : Ty} {xs ys : List Bool} {x y : ℤ} (k : Bool) → not T.signed ≡ true → IsWord T xs x → IsWord T ys y
    → AreWords (bit_type ∷ T ∷ []) ((carry_out xs ys k ∷ []) ∷ sum_bits xs ys k ∷ []) (parts_of T.width (x +ℤ y +ℤ pos (bit_value k)))
carry_words {T} {xs} {ys} {x} {y} k u a b =
    let e = a.length ∙ sym b.length in
    let long : length (sum_bits xs ys k) ≡ T.width = length-sum_bits xs ys k e ∙ a.length in
    let law = subst (λ n. unsigned_value (sum_bits xs ys k) + 2 ^ n * bit_value (carry_out xs ys k) ≡ unsigned_value xs + unsigned_value ys + bit_value k) a.length (adder_law xs ys k e) in
    let whole : x +ℤ y +ℤ pos (bit_value k) ≡ pos (unsigned_value (sum_bits xs ys k)) +ℤ pos (2 ^ T.width) *ℤ pos (bit_value (carry_out xs ys k)) =
    ap₂ (λ p q. p +ℤ q +ℤ pos (bit_value k)) (unsigned_of_word u a) (unsigned_of_word u b) ∙ whole_sum (2 ^ T.width) _ (unsigned_value xs) (unsigned_value ys) (bit_value k) _ law in
    let p = parts_are T.width (unsigned_value (sum_bits xs ys k)) (x +ℤ y +ℤ pos (bit_value k)) (pos (bit_value (carry_out xs ys k))) (below_at T.width (sum_bits xs ys k) long) whole in
    word (word_is (sym p.0) (one_bit (carry_out xs ys k))) (word (record { length = long; value = unsigned_is T.signed (sum_bits xs ys k) u ∙ sym p.1 }) none)

-- the borrow, then the difference
pub borrow_words : {T : Ty} {xs ys : List Bool} {x y : ℤ} (k : Bool) → not T.signed ≡ true → IsWord T xs x → IsWord T ys y
    → AreWords (bit_type ∷ T ∷ []) ((borrow_out xs ys k ∷ []) ∷ difference_bits xs ys k ∷ []) (borrow_of T.width (x -ℤ y -ℤ pos (bit_value k)))
borrow_words {T} {xs} {ys} {x} {y} k u a b =
    let e = a.length ∙ sym b.length in
    let d = unsigned_value (difference_bits xs ys k) in
    let out = bit_value (borrow_out xs ys k) in
    let long : length (difference_bits xs ys k) ≡ T.width = length-difference_bits xs ys k e ∙ a.length in
    let law = subst (λ n. d + unsigned_value ys + bit_value k ≡ unsigned_value xs + 2 ^ n * out) a.length (difference_law xs ys k e) in
    let whole : x -ℤ y -ℤ pos (bit_value k) ≡ pos d +ℤ pos (2 ^ T.width) *ℤ neg_ℤ (pos out) =
    ap₂ (λ p q. p -ℤ q -ℤ pos (bit_value k)) (unsigned_of_word u a) (unsigned_of_word u b) ∙ whole_difference (2 ^ T.width) d (unsigned_value xs) (unsigned_value ys) (bit_value k) out law in
    let p = parts_are T.width d (x -ℤ y -ℤ pos (bit_value k)) (neg_ℤ (pos out)) (below_at T.width (difference_bits xs ys k) long) whole in
    word (word_is (sym (int_neg_neg (pos out)) ∙ ap neg_ℤ (sym p.0)) (one_bit (borrow_out xs ys k)))
    (word (record { length = long; value = unsigned_is T.signed (difference_bits xs ys k) u ∙ sym p.1 }) none)

-- a high and a low part, each at the width of the type
pub high_low_words : {T : Ty} {high low : List Bool} {n : ℤ} (k : ℕ) → length high ≡ T.width → length low ≡ T.width → unsigned_value low < 2 ^ k
    → n ≡ pos (unsigned_value low) +ℤ pos (2 ^ k) *ℤ word_value T.signed high → AreWords (T ∷ unsigned_of T ∷ []) (high ∷ low ∷ []) (parts_of k n)
high_low_words {T} {high} {low} {n} k h l below whole =
    let p = parts_are k (unsigned_value low) n (word_value T.signed high) below whole in
    word (record { length = h; value = sym p.0 }) (word (record { length = l; value = sym p.1 }) none)

pub same_length : {T : Ty} {xs ys : List Bool} {x y : ℤ} → IsWord T xs x → IsWord T ys y → length xs ≡ length ys
same_length a b = a.length ∙ sym b.length

pub positive : {T : Ty} {xs : List Bool} {x : ℤ} → 0 < T.width → IsWord T xs x → 0 < length xs
positive {T} p a = subst (λ n. 0 < n) (sym a.length) p

-- the product at twice the width
pub full_is : {T : Ty} {xs ys : List Bool} {x y : ℤ} → 0 < T.width → IsWord T xs x → IsWord T ys y → IsWord (double_of T) (full_product T.signed xs ys) (x *ℤ y)
full_is {T} {xs} {ys} p a b = record {
  length =
      length-product_bits (extended_bits T.signed (2 * length xs) xs) (extended_bits T.signed (2 * length xs) ys)
      (omega (arith, length-extended_bits T.signed (2 * length xs) xs, length-extended_bits T.signed (2 * length xs) ys)) ∙ length-extended_bits T.signed (2 * length xs) xs ∙ ap (λ n. 2 * n) a.length;
  value = product_full T.signed xs ys (same_length a b) (positive p a) ∙ ap₂ (λ u v. u *ℤ v) a.value b.value;
}

pub mull_words : {T : Ty} {xs ys : List Bool} {x y : ℤ} → 0 < T.width → IsWord T xs x → IsWord T ys y
    → AreWords (T ∷ unsigned_of T ∷ []) (drop T.width (full_product T.signed xs ys) ∷ take T.width (full_product T.signed xs ys) ∷ []) (parts_of T.width (x *ℤ y))
mull_words {T} {xs} {ys} {x} {y} p a b =
    let f = full_product T.signed xs ys in
    let w = full_is p a b in
    high_low_words T.width (omega (arith, w.length, length-drop T.width f)) (omega (arith, w.length, length-take T.width f)) (take_below T.width f)
    (sym w.value ∙ split_word T.signed T.width f (omega (arith, w.length, p)))

-- the low bits with zeros, and the other bits extended
pub split_words : {T : Ty} {xs : List Bool} {x : ℤ} (n : ℕ) → n < T.width → IsWord T xs x
    → AreWords (T ∷ unsigned_of T ∷ []) (extended_bits T.signed T.width (drop n xs) ∷ extended_bits false T.width (take n xs) ∷ []) (parts_of n x)
split_words {T} {xs} {x} n h a =
    let low = extension_law false T.width (take n xs) (omega (arith, a.length, h, length-take n xs)) in
    let same : unsigned_value (extended_bits false T.width (take n xs)) ≡ unsigned_value (take n xs) = omega (arith, ints, low) in
    high_low_words n (length-extended_bits T.signed T.width (drop n xs)) (length-extended_bits false T.width (take n xs))
    (subst (λ u. u < 2 ^ n) (sym same) (take_below n xs))
    (sym a.value ∙ split_word T.signed n xs (omega (arith, a.length, h))
    ∙ ap₂ (λ u v. pos u +ℤ pos (2 ^ n) *ℤ v) (sym same) (sym (extension_law T.signed T.width (drop n xs) (omega (arith, a.length, length-drop n xs)))))

pub product_is : {T : Ty} {xs ys : List Bool} {x y : ℤ} → 0 < T.width → IsWord T xs x → IsWord T ys y → IsWord T (product_bits xs ys) (wrap_of T (x *ℤ y))
product_is {T} {xs} {ys} p a b = record {
  length = length-product_bits xs ys (omega (arith, same_length a b)) ∙ a.length;
  value = product_word T.signed xs ys (same_length a b) (positive p a) ∙ ap₂ (λ w n. wrapped T.signed w n) a.length (ap₂ (λ u v. u *ℤ v) a.value b.value);
}

pub shift_is : {T : Ty} {xs : List Bool} {x : ℤ} (n : ℕ) → n < T.width → IsWord T xs x → IsWord T (shifted_bits n xs) (wrap_of T (x *ℤ pos (2 ^ n)))
shift_is {T} {xs} n h a = record {
  length = length-shifted_bits n xs (omega (arith, a.length, h)) ∙ a.length;
  value = shifted_word T.signed n xs (omega (arith, a.length, h)) (omega (arith, a.length, h)) ∙ ap₂ (λ w v. wrapped T.signed w (v *ℤ pos (2 ^ n))) a.length a.value;
}

pub join_is : {T : Ty} {xs ys : List Bool} {x y : ℤ} → 0 < T.width → IsWord T xs x → IsWord (unsigned_of T) ys y → IsWord (double_of T) (ys ++ xs) (pos (2 ^ T.width) *ℤ x +ℤ y)
join_is {T} {xs} {ys} {x} {y} p a b = record {
  length = length-append ys xs ∙ omega (arith, a.length, b.length);
  value =
      join_word T.signed ys xs (positive p a) ∙ ap₂ (λ n v. pos (unsigned_value ys) +ℤ pos (2 ^ n) *ℤ v) b.length a.value
      ∙ ap (λ v. v +ℤ pos (2 ^ T.width) *ℤ x) b.value ∙ int_add_comm y (pos (2 ^ T.width) *ℤ x);
}

pub cast_is : {T S : Ty} {xs : List Bool} {x : ℤ} → 0 < T.width → IsWord S xs x → IsWord T (extended_bits S.signed T.width xs) (wrap_of T x)
cast_is {T} {S} {xs} p a = record {
  length = length-extended_bits S.signed T.width xs;
  value = extended_word S.signed T.signed T.width xs p ∙ ap (wrapped T.signed T.width) a.value;
}

-- the pattern of a word is its bits
pub pattern_is : {T : Ty} {xs : List Bool} {x : ℤ} → IsWord T xs x → pattern_of T.width x ≡ unsigned_value xs
pattern_is {T} {xs} a = ap unsigned_abs (sym (ap₂ (λ v n. int_rem_euclid v (pos (2 ^ n))) a.value a.length) ∙ pattern_law T.signed xs)

pub met_is : {T : Ty} {xs ys zs : List Bool} {x y : ℤ} (f : ℕ → ℕ → ℕ) → length zs ≡ length xs → unsigned_value zs ≡ f (unsigned_value xs) (unsigned_value ys) → 0 < T.width → IsWord T xs x → IsWord T ys y
    → IsWord T zs (wrap_of T (pos (f (pattern_of T.width x) (pattern_of T.width y))))
met_is {T} {xs} {ys} {zs} f l e p a b = record {
  length = l ∙ a.length;
  value = pattern_word T.signed zs T.width _ (l ∙ a.length) p (e ∙ ap₂ f (sym (pattern_is a)) (sym (pattern_is b)));
}

pub flip_is : {T : Ty} {xs : List Bool} {x : ℤ} → 0 < T.width → IsWord T xs x → IsWord T (flipped_bits xs) (wrap_of T (pos (2 ^ T.width - 1 - pattern_of T.width x)))
flip_is {T} {xs} {x} p a =
    let law = subst (λ n. unsigned_value (flipped_bits xs) + unsigned_value xs + 1 ≡ 2 ^ n) a.length (unsigned-flipped xs) in
    record {
      length = length-flipped xs ∙ a.length;
      value = pattern_word T.signed (flipped_bits xs) T.width _ (length-flipped xs ∙ a.length) p (omega (arith, law, pattern_is a));
    }

pub choice_is : {T : Ty} {xs ys : List Bool} {c x y : ℤ} (k : Bool) → pos (bit_value k) ≡ c → IsWord T xs x → IsWord T ys y → IsWord T (chosen_bits k xs ys) (cond (unsigned_abs c == 1) x y)
choice_is {T} {xs} {ys} {c} {x} {y} k e a b = by_bit k e
  where
    by_bit : (k : Bool) → pos (bit_value k) ≡ c → IsWord T (chosen_bits k xs ys) (cond (unsigned_abs c == 1) x y)
    by_bit true e = subst (λ c. IsWord T (chosen_bits true xs ys) (cond (unsigned_abs c == 1) x y)) e (subst (λ w. IsWord T w x) (sym (choice_law true xs ys (same_length a b))) a)
    by_bit false e = subst (λ c. IsWord T (chosen_bits false xs ys) (cond (unsigned_abs c == 1) x y)) e (subst (λ w. IsWord T w y) (sym (choice_law false xs ys (same_length a b))) b)
