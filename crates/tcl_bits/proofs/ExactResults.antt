-- Exactness circuits: a result made again at a greater width tells whether the integer result fits the type.
use Rattle.std.proofs.Common.{◌≡◌, ℕ, suc, ◌+◌, ◌-◌, ◌*◌, ◌^◌, ◌<◌, ◌≤◌, max, Bool, true, false, List, ◌++◌, replicate, take_all, length, refl, sym, ap, subst, ◌∙◌, arith, pow-suc, pow-add, ℤ, pos, negsuc, ◌+ℤ◌, ◌-ℤ◌, ◌*ℤ◌, neg_ℤ, ◌≤ℤ◌, ◌<ℤ◌, Decides}
use Rattle.std.proofs.lemmas.Int.{ints}
use Rattle.std.proofs.lemmas.Nat.{mul-lt, mul-le, pow_pos}
use Rattle.tcl_num.specs.Range.{InRange, wrapped}
use Rattle.tcl_num.proofs.WrappedValues.{wrapped_fixed, power_halves}
use Rattle.tcl_bits.specs.Value.{bit_value, signed_value, word_value}
use Rattle.tcl_bits.specs.Circuit.{sum_bits, difference_bits, product_bits, extended_bits, shifted_bits, range_bit}
use Rattle.tcl_bits.specs.Exactness.{full_product, full_shift, sum_fits, difference_fits, product_fits, shift_fits, cast_fits}
use Rattle.tcl_bits.proofs.Values.{bit_most}
use Rattle.tcl_bits.proofs.Sums.{length-sum_bits, length-difference_bits}
use Rattle.tcl_bits.proofs.Products.{length-product_bits}
use Rattle.tcl_bits.proofs.Signs.{extension_law, signed_with_zero}
use Rattle.tcl_bits.proofs.Words.{sum_word, difference_word, product_word, word_in_range}
use Rattle.tcl_bits.proofs.Widths.{length-extended_bits, length-shifted_bits, shifted_word}
use Rattle.tcl_bits.proofs.Ranges.{range_law, signed_range_law}

-- the bounds that both kinds of word keep, with h for half the range
loose : (signed : Bool) (w h : ℕ) (x : ℤ) → 2 ^ (w - 1) ≡ h → 2 ^ w ≡ h + h → InRange signed w x → (neg_ℤ (pos h) ≤ℤ x) × (x <ℤ pos (h + h))
loose true w h x e f r = (omega (arith, ints, r.0, r.1, e), omega (arith, ints, r.0, r.1, e))
loose false w h x e f r = (omega (arith, ints, r.0, r.1), omega (arith, ints, r.0, r.1, f))

four_halves : (w h : ℕ) → 2 ^ w ≡ h + h → 2 ^ (w + 2 - 1) ≡ h + h + (h + h)
four_halves w h e = let up_one : w + 2 - 1 ≡ suc w = omega arith in ap (λ k. 2 ^ k) up_one ∙ pow-suc 2 w ∙ omega arith

-- a sum of two words with a carry fits two bits more
sum_room : (signed : Bool) (w : ℕ) (x y : ℤ) (c : ℕ) → 0 < w → c ≤ 1 → InRange signed w x → InRange signed w y → InRange true (w + 2) ((x +ℤ y) +ℤ pos c)
sum_room signed w x y c h g f e =
    let half = 2 ^ (w - 1) in
    let a = loose signed w half x refl (power_halves w h) f in
    let b = loose signed w half y refl (power_halves w h) e in
    let top = four_halves w half (power_halves w h) in
    (omega (arith, ints, a.0, b.0, top), omega (arith, ints, a.1, b.1, top))

-- and so does a difference with a borrow
difference_room : (signed : Bool) (w : ℕ) (x y : ℤ) (b : ℕ) → 0 < w → b ≤ 1 → InRange signed w x → InRange signed w y → InRange true (w + 2) ((x -ℤ y) -ℤ pos b)
difference_room signed w x y b h g f e =
    let half = 2 ^ (w - 1) in
    let a = loose signed w half x refl (power_halves w h) f in
    let c = loose signed w half y refl (power_halves w h) e in
    let top = four_halves w half (power_halves w h) in
    (omega (arith, ints, a.0, c.1, top), omega (arith, ints, a.1, c.0, top))

-- a word at a greater width, read as signed, keeps its value
pub wide_signed : (signed : Bool) (width : ℕ) (xs : List Bool) → length xs < width → signed_value (extended_bits signed width xs) ≡ word_value signed xs
wide_signed true width xs h = extension_law true width xs (omega arith)
wide_signed false width xs h =
    ap (λ ys. signed_value (ys ++ replicate (width - length xs) false)) (take_all width xs (omega arith)) ∙ signed_with_zero xs (width - length xs) (omega arith)

-- a result that is made again so wide that nothing wraps, and tested for the range of the type
pub exact_law : (signed : Bool) (width wide : ℕ) (zs : List Bool) (n : ℤ) → 0 < width → width < wide → length zs ≡ wide → signed_value zs ≡ wrapped true wide n → InRange true wide n
    → Decides (range_bit signed width zs) (InRange signed width n)
exact_law signed width wide zs n h g e v r =
    subst (λ (m : ℤ). Decides (range_bit signed width zs) (InRange signed width m)) (v ∙ wrapped_fixed true wide n (omega arith) r)
    (signed_range_law signed width zs h (omega arith))

-- addition, with a carry: two bits more are enough
pub sum_exact : (signed : Bool) (xs ys : List Bool) (carry : Bool) → length xs ≡ length ys → 0 < length xs
    → Decides (sum_fits signed xs ys carry) (InRange signed (length xs) ((word_value signed xs +ℤ word_value signed ys) +ℤ pos (bit_value carry)))
sum_exact signed xs ys carry e h =
    let wide = length xs + 2 in
    let xs' = extended_bits signed wide xs in let ys' = extended_bits signed wide ys in
    let x = word_value signed xs in let y = word_value signed ys in let c = pos (bit_value carry) in
    let long : length xs' ≡ wide = length-extended_bits signed wide xs in
    let same : length xs' ≡ length ys' = long ∙ sym (length-extended_bits signed wide ys) in
    let value : signed_value (sum_bits xs' ys' carry) ≡ wrapped true wide ((x +ℤ y) +ℤ c) =
    sum_word true xs' ys' carry same (omega arith)
    ∙ ap (λ n. wrapped true n ((signed_value xs' +ℤ signed_value ys') +ℤ c)) long
    ∙ ap (λ v. wrapped true wide ((v +ℤ signed_value ys') +ℤ c)) (wide_signed signed wide xs (omega arith))
    ∙ ap (λ v. wrapped true wide ((x +ℤ v) +ℤ c)) (wide_signed signed wide ys (omega arith)) in
    exact_law signed (length xs) wide (sum_bits xs' ys' carry) ((x +ℤ y) +ℤ c) h (omega arith) (length-sum_bits xs' ys' carry same ∙ long) value
    (sum_room signed (length xs) x y (bit_value carry) h (bit_most carry) (word_in_range signed xs h)
    (subst (λ (n : ℕ). InRange signed n y) (sym e) (word_in_range signed ys (omega arith))))

-- subtraction, with a borrow
pub difference_exact : (signed : Bool) (xs ys : List Bool) (borrow : Bool) → length xs ≡ length ys → 0 < length xs
    → Decides (difference_fits signed xs ys borrow) (InRange signed (length xs) ((word_value signed xs -ℤ word_value signed ys) -ℤ pos (bit_value borrow)))
difference_exact signed xs ys borrow e h =
    let wide = length xs + 2 in
    let xs' = extended_bits signed wide xs in let ys' = extended_bits signed wide ys in
    let x = word_value signed xs in let y = word_value signed ys in let b = pos (bit_value borrow) in
    let long : length xs' ≡ wide = length-extended_bits signed wide xs in
    let same : length xs' ≡ length ys' = long ∙ sym (length-extended_bits signed wide ys) in
    let value : signed_value (difference_bits xs' ys' borrow) ≡ wrapped true wide ((x -ℤ y) -ℤ b) =
    difference_word true xs' ys' borrow same (omega arith)
    ∙ ap (λ n. wrapped true n ((signed_value xs' -ℤ signed_value ys') -ℤ b)) long
    ∙ ap (λ v. wrapped true wide ((v -ℤ signed_value ys') -ℤ b)) (wide_signed signed wide xs (omega arith))
    ∙ ap (λ v. wrapped true wide ((x -ℤ v) -ℤ b)) (wide_signed signed wide ys (omega arith)) in
    exact_law signed (length xs) wide (difference_bits xs' ys' borrow) ((x -ℤ y) -ℤ b) h (omega arith) (length-difference_bits xs' ys' borrow same ∙ long) value
    (difference_room signed (length xs) x y (bit_value borrow) h (bit_most borrow) (word_in_range signed xs h)
    (subst (λ (n : ℕ). InRange signed n y) (sym e) (word_in_range signed ys (omega arith))))

-- a word of one kind as a word of another: one bit more than the greater width is enough
pub cast_exact : (from to : Bool) (width : ℕ) (xs : List Bool) → 0 < width
    → Decides (cast_fits from to width xs) (InRange to width (word_value from xs))
cast_exact from to width xs h =
    let wide = max (length xs) width + 1 in
    subst (λ (v : ℤ). Decides (range_bit to width (extended_bits from wide xs)) (InRange to width v)) (wide_signed from wide xs (omega arith))
    (signed_range_law to width (extended_bits from wide xs) h (omega (arith, length-extended_bits from wide xs)))

natural_product : (a b p q : ℕ) → a < p → b < p → q ≡ p * p → (pos 0 ≤ℤ (pos a *ℤ pos b)) × ((pos a *ℤ pos b) <ℤ pos q)
natural_product a b p q f g e = (omega (arith, ints), omega (arith, ints, mul-lt a b p p f g))

signed_product : (h q : ℕ) (x y : ℤ) → 0 < h → q ≡ 2 * (h * h) → neg_ℤ (pos h) ≤ℤ x → x <ℤ pos h → neg_ℤ (pos h) ≤ℤ y → y <ℤ pos h → (neg_ℤ (pos q) ≤ℤ (x *ℤ y)) × ((x *ℤ y) <ℤ pos q)
signed_product h q (pos a) (pos b) z e f g i j = let m = mul-lt a b h h (omega (arith, ints, g)) (omega (arith, ints, j)) in (omega (arith, ints), omega (arith, ints))
signed_product h q (pos a) (negsuc b) z e f g i j = let m = mul-le a (suc b) h h (omega (arith, ints, g)) (omega (arith, ints, i)) in let n = mul-lt 0 0 h h z z in (omega (arith, ints), omega (arith, ints))
signed_product h q (negsuc a) (pos b) z e f g i j = let m = mul-le (suc a) b h h (omega (arith, ints, f)) (omega (arith, ints, j)) in let n = mul-lt 0 0 h h z z in (omega (arith, ints), omega (arith, ints))
signed_product h q (negsuc a) (negsuc b) z e f g i j = let m = mul-le (suc a) (suc b) h h (omega (arith, ints, f)) (omega (arith, ints, i)) in let n = mul-lt 0 0 h h z z in (omega (arith, ints), omega (arith, ints))

naturals : (x : ℤ) (p : ℕ) → pos 0 ≤ℤ x → x <ℤ pos p → (a : ℕ) × (x ≡ pos a) × (a < p)
naturals (pos a) p f g = (a, refl, omega (arith, ints, g))
naturals (negsuc a) p f g = absurd (omega (arith, ints, f))

twice_halves : (w : ℕ) → 0 < w → 2 ^ (2 * w - 1) ≡ 2 * (2 ^ (w - 1) * 2 ^ (w - 1))
twice_halves w h =
    let count : 2 * w - 1 ≡ suc ((w - 1) + (w - 1)) = omega arith in
    let parts = pow-add 2 (w - 1) (w - 1) in
    ap (λ k. 2 ^ k) count ∙ pow-suc 2 ((w - 1) + (w - 1)) ∙ omega (arith, parts)

-- a product of two words fits twice the width, in their kind
product_room : (signed : Bool) (w : ℕ) (x y : ℤ) → 0 < w → InRange signed w x → InRange signed w y → InRange signed (2 * w) (x *ℤ y)
product_room true w x y h f g = signed_product (2 ^ (w - 1)) (2 ^ (2 * w - 1)) x y (pow_pos (w - 1)) (twice_halves w h) f.0 f.1 g.0 g.1
product_room false w x y h f g =
    let a = naturals x (2 ^ w) f.0 f.1 in let b = naturals y (2 ^ w) g.0 g.1 in
    let whole : 2 * w ≡ w + w = omega arith in
    subst (λ (z : ℤ). InRange false (2 * w) (z *ℤ y)) (sym a.1) (subst (λ (z : ℤ). InRange false (2 * w) (pos a.0 *ℤ z)) (sym b.1)
    (natural_product a.0 b.0 (2 ^ w) (2 ^ (2 * w)) a.2 b.2 (ap (λ k. 2 ^ k) whole ∙ pow-add 2 w w)))

-- the product made at twice the width is the product itself
pub product_full : (signed : Bool) (xs ys : List Bool) → length xs ≡ length ys → 0 < length xs
    → word_value signed (full_product signed xs ys) ≡ word_value signed xs *ℤ word_value signed ys
product_full signed xs ys e h =
    let wide = 2 * length xs in
    let xs' = extended_bits signed wide xs in let ys' = extended_bits signed wide ys in
    let x = word_value signed xs in let y = word_value signed ys in
    let long : length xs' ≡ wide = length-extended_bits signed wide xs in
    let same : length xs' ≡ length ys' = long ∙ sym (length-extended_bits signed wide ys) in
    product_word signed xs' ys' same (omega arith)
    ∙ ap (λ n. wrapped signed n (word_value signed xs' *ℤ word_value signed ys')) long
    ∙ ap (λ v. wrapped signed wide (v *ℤ word_value signed ys')) (extension_law signed wide xs (omega arith))
    ∙ ap (λ v. wrapped signed wide (x *ℤ v)) (extension_law signed wide ys (omega arith))
    ∙ wrapped_fixed signed wide (x *ℤ y) (omega arith)
    (product_room signed (length xs) x y h (word_in_range signed xs h) (subst (λ (n : ℕ). InRange signed n y) (sym e) (word_in_range signed ys (omega arith))))

-- multiplication: twice the width is enough
pub product_exact : (signed : Bool) (xs ys : List Bool) → length xs ≡ length ys → 0 < length xs
    → Decides (product_fits signed xs ys) (InRange signed (length xs) (word_value signed xs *ℤ word_value signed ys))
product_exact signed xs ys e h =
    let wide = 2 * length xs in
    let xs' = extended_bits signed wide xs in let ys' = extended_bits signed wide ys in
    let long : length xs' ≡ wide = length-extended_bits signed wide xs in
    let same : length xs' ≡ length ys' = long ∙ sym (length-extended_bits signed wide ys) in
    subst (λ (v : ℤ). Decides (range_bit signed (length xs) (product_bits xs' ys')) (InRange signed (length xs) v)) (product_full signed xs ys e h)
    (range_law signed (length xs) (product_bits xs' ys') h (omega (arith, length-product_bits xs' ys' (omega arith))))

scaled_less : (a b c : ℕ) → a < b → 0 < c → a * c < b * c
scaled_less a b c h z = omega (arith, mul-le (suc a) c b c h (omega arith))

scaled : (x : ℤ) (h p q : ℕ) → 0 < q → neg_ℤ (pos h) ≤ℤ x → x <ℤ pos p → (neg_ℤ (pos (h * q)) ≤ℤ (x *ℤ pos q)) × ((x *ℤ pos q) <ℤ pos (p * q))
scaled (pos a) h p q z f g = (omega (arith, ints), omega (arith, ints, scaled_less a p q (omega (arith, ints, g)) z))
scaled (negsuc a) h p q z f g = let m = mul-le (suc a) q h q (omega (arith, ints, f)) (omega arith) in (omega (arith, ints), omega (arith, ints))

-- a shifted word fits as many bits more, in its kind
shift_room : (signed : Bool) (w n : ℕ) (x : ℤ) → 0 < w → InRange signed w x → InRange signed (w + n) (x *ℤ pos (2 ^ n))
shift_room true w n x h r =
    let count : w + n - 1 ≡ (w - 1) + n = omega arith in
    subst (λ (m : ℕ). (neg_ℤ (pos m) ≤ℤ (x *ℤ pos (2 ^ n))) × ((x *ℤ pos (2 ^ n)) <ℤ pos m)) (sym (ap (λ k. 2 ^ k) count ∙ pow-add 2 (w - 1) n))
    (scaled x (2 ^ (w - 1)) (2 ^ (w - 1)) (2 ^ n) (pow_pos n) r.0 r.1)
shift_room false w n x h r =
    subst (λ (m : ℕ). (pos 0 ≤ℤ (x *ℤ pos (2 ^ n))) × ((x *ℤ pos (2 ^ n)) <ℤ pos m)) (sym (pow-add 2 w n))
    (let s = scaled x 0 (2 ^ w) (2 ^ n) (pow_pos n) r.0 r.1 in (omega (arith, ints, s.0), s.1))

-- a word shifted at a width that is greater by the count is the product with the power of two
pub shift_full : (signed : Bool) (count : ℕ) (xs : List Bool) → 0 < length xs
    → word_value signed (full_shift signed count xs) ≡ word_value signed xs *ℤ pos (2 ^ count)
shift_full signed count xs h =
    let wide = length xs + count in
    let xs' = extended_bits signed wide xs in
    let long : length xs' ≡ wide = length-extended_bits signed wide xs in
    let x = word_value signed xs in
    shifted_word signed count xs' (omega arith) (omega arith)
    ∙ ap (λ n. wrapped signed n (word_value signed xs' *ℤ pos (2 ^ count))) long
    ∙ ap (λ v. wrapped signed wide (v *ℤ pos (2 ^ count))) (extension_law signed wide xs (omega arith))
    ∙ wrapped_fixed signed wide (x *ℤ pos (2 ^ count)) (omega arith) (shift_room signed (length xs) count x h (word_in_range signed xs h))

-- a shift: as many bits more as it shifts are enough
pub shift_exact : (signed : Bool) (count : ℕ) (xs : List Bool) → 0 < length xs
    → Decides (shift_fits signed count xs) (InRange signed (length xs) (word_value signed xs *ℤ pos (2 ^ count)))
shift_exact signed count xs h =
    let wide = length xs + count in
    let xs' = extended_bits signed wide xs in
    let long : length xs' ≡ wide = length-extended_bits signed wide xs in
    subst (λ (v : ℤ). Decides (range_bit signed (length xs) (shifted_bits count xs')) (InRange signed (length xs) v)) (shift_full signed count xs h)
    (range_law signed (length xs) (shifted_bits count xs') h (omega (arith, length-shifted_bits count xs' (omega arith))))
