-- What the machine computes of sums, products and parts of words is what the rows say.
use Rattle.std.proofs.Common.{◌≡◌, ℕ, ◌-◌, ◌*◌, ◌/◌, ◌%◌, ◌^◌, ◌<◌, ◌≤◌, refl, sym, ◌∙◌, ap, arith, ℤ, pos, negsuc, neg_ℤ, ◌+ℤ◌, ◌*ℤ◌, unsigned_abs, Bool, true, false, [], ◌∷◌, to_z, of_z, bit_and, FitsSigned, SFits}
use Rattle.std.specs.Int.{w128, int_div_euclid, int_shr}
use Rattle.std.proofs.lemmas.Int.{ints, to_z_pos, to_z-of_z, fits_signed_from_abs, unsigned_abs-mul}
use Rattle.std.proofs.lemmas.Nat.{and_mask, shr_le, pow_pos, mod_below, div_below, mul-lt, mul-le}
use Rattle.std.proofs.Math.Nat.{pow-le-pow_right}
use Rattle.tcl_num.specs.Range.{InRange, wrapped}
use Rattle.tcl_num.proofs.IntegerRing.{int_mul_neg}
use Rattle.tcl_num.proofs.IntegerOrder.{unsigned_abs_add}
use Rattle.tcl_num.proofs.SaturatingCounts.{product_at_least}
use Rattle.tcl_lang.specs.declared.ty.Ty.{Ty}
use Rattle.tcl_lang.specs.Types.{InType, wrap_of}
use Rattle.tcl_lang.specs.Results.{parts_of}
use Rattle.tcl_lang.specs.Operands.{IsWordValue}
use Rattle.tcl_lang.proofs.ResultTypes.{floor_least, floor_below}

-- values of a type without a sign
unsigned_at : (s : Bool) (w : ℕ) (n : ℤ) → s ≡ false → InRange s w n → InRange false w n
unsigned_at true w n e h = absurd (cc)
unsigned_at false w n e h = h

pub unsigned_value : (T : Ty) (n : ℤ) → T.signed ≡ false → InType T n → InRange false T.width n
unsigned_value T n e h = unsigned_at T.signed T.width n e h

power_within : (w : ℕ) → w ≤ 64 → 2 ^ w ≤ 2 ^ 64
power_within w h = pow-le-pow_right {n = 2} (omega arith) {i = w} {j = 64} h

-- the wrapped value and the parts of a number that is not negative
wrapped_natural : (s : Bool) (w p : ℕ) → s ≡ false → wrapped s w (pos p) ≡ pos (p % 2 ^ w)
unfolding wrapped
wrapped_natural true w p e = absurd (cc)
wrapped_natural false w p e = refl

pub wrap_natural : (T : Ty) (n : ℤ) (p : ℕ) → T.signed ≡ false → pos p ≡ n → wrap_of T n ≡ pos (p % 2 ^ T.width)
wrap_natural T n p e f = ap (wrap_of T) (sym f) ∙ wrapped_natural T.signed T.width p e

pub parts_natural : (w : ℕ) (n : ℤ) (p : ℕ) → pos p ≡ n → parts_of w n ≡ pos (p / 2 ^ w) ∷ pos (p % 2 ^ w) ∷ []
parts_natural w n p e = ap (parts_of w) (sym e)

-- the lowest bits of a natural number by a mask, and its high part by a shift
pub machine_low : (p w m : ℕ) → m ≡ 2 ^ w - 1 → w ≤ 64 → to_z w128 (bit_and p m) ≡ pos (p % 2 ^ w)
machine_low p w m e h =
    let below = mod_below p (2 ^ w) (pow_pos w) in
    ap (λ n. to_z w128 (bit_and p n)) e ∙ ap (to_z w128) (and_mask p w) ∙ to_z_pos w128 (p % 2 ^ w) (omega (arith, below, power_within w h))

pub machine_high : (p w : ℕ) (a b : ℤ) → w ≤ 64 → pos p ≡ a *ℤ b → InRange false w a → InRange false w b → to_z w128 (p / 2 ^ w) ≡ pos (p / 2 ^ w)
machine_high p w a b h f x y =
    let below = div_below p (2 ^ w) (2 ^ w) (pow_pos w) (product_below a b f x y) in
    to_z_pos w128 (p / 2 ^ w) (omega (arith, below, power_within w h))
  where
    product_below : (a b : ℤ) → pos p ≡ a *ℤ b → InRange false w a → InRange false w b → p < 2 ^ w * 2 ^ w
    product_below (pos a) (pos b) f x y =
        omega (arith, ints, f, mul-lt a b (2 ^ w) (2 ^ w) (omega (arith, ints, x.1)) (omega (arith, ints, y.1)))
    product_below (pos a) (negsuc b) f x y = absurd (omega (arith, ints, y.0))
    product_below (negsuc a) b f x y = absurd (omega (arith, ints, x.0))

-- a shift that copies the sign bit rounds down
shift_fits : (n : ℤ) (k : ℕ) → SFits w128 n → SFits w128 (int_shr n k)
shift_fits (pos a) k h = omega (arith, ints, h, shr_le a k)
shift_fits (negsuc a) k h = omega (arith, ints, h, shr_le a k)

floor_is : (n : ℤ) (k : ℕ) → int_shr n k ≡ int_div_euclid n (pos (2 ^ k))
floor_is (pos a) k = refl
floor_is (negsuc a) k = refl

pub machine_floor : (n : ℤ) (k : ℕ) → SFits w128 n → to_z w128 (of_z w128 (int_shr (to_z w128 (of_z w128 n)) k)) ≡ int_div_euclid n (pos (2 ^ k))
machine_floor n k h =
    ap (λ z. to_z w128 (of_z w128 (int_shr z k))) (to_z-of_z w128 n h) ∙ to_z-of_z w128 (int_shr n k) (shift_fits n k h) ∙ floor_is n k

-- the floor of a small number is small, so that it can be negated
pub floor_fits : (n : ℤ) (k : ℕ) → unsigned_abs n < 2 ^ 67 → FitsSigned w128 (neg_ℤ (int_div_euclid n (pos (2 ^ k))))
floor_fits n k h = fits (2 ^ 67) h (omega arith)
  where
    fits : (b : ℕ) → unsigned_abs n < b → b < 2 ^ 127 → FitsSigned w128 (neg_ℤ (int_div_euclid n (pos (2 ^ k))))
    fits b small bound =
        let grows = product_at_least b (2 ^ k) (pow_pos k) in
        let least = floor_least n (2 ^ k) (neg_ℤ (pos b)) (pow_pos k) (omega (arith, ints, grows, int_mul_neg (pos (2 ^ k)) (pos b))) in
        let below = floor_below n (2 ^ k) (pos b) (pow_pos k) (omega (arith, ints, grows)) in
        fits_signed_from_abs w128 (neg_ℤ (int_div_euclid n (pos (2 ^ k)))) (omega (arith, ints, least, below))

-- a product, of factors as the machine passes them on
pub product_passed : (p : ℕ) (a b x y : ℤ) → pos p ≡ x *ℤ y → x ≡ a → y ≡ b → pos p ≡ a *ℤ b
product_passed p a b x y e f g = e ∙ ap (λ z. z *ℤ y) f ∙ ap (λ z. a *ℤ z) g

-- a joined word fits
pub joined_fits : (h l : ℤ) (w : ℕ) → IsWordValue h → IsWordValue l → w ≤ 32 → FitsSigned w128 (h *ℤ pos (2 ^ w) +ℤ l)
joined_fits h l w a b k =
    let power : 2 ^ w ≤ 2 ^ 32 = pow-le-pow_right {n = 2} (omega arith) {i = w} {j = 32} k in
    let magnitude : unsigned_abs h ≤ 2 ^ 64 = omega (arith, ints, a.least, a.below) in
    let product : unsigned_abs (h *ℤ pos (2 ^ w)) ≤ 2 ^ 64 * 2 ^ 32 =
    omega (arith, unsigned_abs-mul h (pos (2 ^ w)), mul-le (unsigned_abs h) (2 ^ w) (2 ^ 64) (2 ^ 32) magnitude power) in
    let other : unsigned_abs l ≤ 2 ^ 64 = omega (arith, ints, b.least, b.below) in
    fits_signed_from_abs w128 (h *ℤ pos (2 ^ w) +ℤ l) (omega (arith, unsigned_abs_add (h *ℤ pos (2 ^ w)) l, product, other))
