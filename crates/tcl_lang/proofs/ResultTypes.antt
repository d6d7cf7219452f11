-- The results of an instruction are values of their types.
use Rattle.std.proofs.Common.{◌≡◌, inl, inr, ℕ, ◌+◌, ◌-◌, ◌*◌, ◌^◌, ◌<◌, ◌≤◌, refl, ◌∙◌, ap, arith, ℤ, pos, negsuc, neg_ℤ, ◌+ℤ◌, ◌-ℤ◌, ◌*ℤ◌, ◌≤ℤ◌, ◌<ℤ◌, unsigned_abs, Bool, true, false, ◌&&◌, cond, List, [], ◌∷◌, Some, bit_and, bit_or, bit_xor, nat_lt, nat_le}
use Rattle.std.specs.Int.{int_div_euclid, int_rem_euclid}
use Rattle.std.proofs.lemmas.Int.{ints, by_lt_z, unsigned_abs-mul}
use Rattle.std.proofs.lemmas.Bool.{and_parts, ltb-true, leb-true}
use Rattle.std.proofs.lemmas.Nat.{pow_pos, pow-add, mul-le, mul-lt, mul-add-lt}
use Rattle.std.proofs.Math.Nat.{pow-le-pow_right}
use Rattle.tcl_num.specs.Range.{InRange}
use Rattle.tcl_num.proofs.IntegerRing.{int_mul_comm, int_mul_neg, int_mul_zero, int_mul_add, int_mul_one}
use Rattle.tcl_num.proofs.IntegerOrder.{int_mul_le_right}
use Rattle.tcl_num.proofs.EuclideanDivision.{euclid_split, remainder_least, remainder_below}
use Rattle.tcl_num.proofs.SaturatingCounts.{product_at_least}
use Rattle.tcl_num.proofs.WrappedValues.{power_halves}
use Rattle.tcl_lang.specs.declared.ty.Ty.{Ty}
use Rattle.tcl_lang.specs.declared.instr.Op.{Op}
use Rattle.tcl_lang.specs.declared.instr.Op.TheVariants.{Mov, Add, Adds, Adc, Adcs, Sub, Subb, Sbb, Sbbs, Mul, Mull, Mulj, Shl, Split, Join, Cast, Vpc, Cmov, And, Or, Xor, Not, Nondet}
use Rattle.tcl_lang.specs.Types.{IsTy, InType, bit_type, unsigned_of, double_of}
use Rattle.tcl_lang.specs.Instruction.{IsBit, nth}
use Rattle.tcl_lang.specs.Results.{results_of, result_types}
use Rattle.tcl_lang.specs.Store.{pattern_of}
use Rattle.tcl_lang.specs.Run.{Fits}
use Rattle.tcl_lang.specs.Typing.{allows}
use Rattle.tcl_lang.specs.Operands.{IsExecutable}
use Rattle.tcl_lang.proofs.WrappedWords.{type_width, wrap_in_type}
use Rattle.tcl_lang.proofs.StepLaw.{asked, step_agrees}

-- a product with a positive factor keeps the order
scaled : (m : ℕ) (a b : ℤ) → a ≤ℤ b → (pos m *ℤ a) ≤ℤ (pos m *ℤ b)
scaled m a b p = omega (arith, ints, int_mul_le_right a b (pos m) p (omega (arith, ints)), int_mul_comm (pos m) a, int_mul_comm (pos m) b)

-- the floor of a quotient lies between bounds, where the number lies between their multiples
pub floor_least : (n : ℤ) (m : ℕ) (low : ℤ) → 0 < m → (pos m *ℤ low) ≤ℤ n → low ≤ℤ int_div_euclid n (pos m)
floor_least n m low p h =
    let q = int_div_euclid n (pos m) in
    by_lt_z q low
    (λ less. let up : (pos m *ℤ (q +ℤ pos 1)) ≤ℤ (pos m *ℤ low) = scaled m (q +ℤ pos 1) low (omega (arith, ints, less)) in
    absurd (omega (arith, ints, up, h, int_mul_add (pos m) q (pos 1), int_mul_one (pos m), euclid_split n m p, remainder_below n m p)))
    (λ more. more)

pub floor_below : (n : ℤ) (m : ℕ) (high : ℤ) → 0 < m → n <ℤ (pos m *ℤ high) → int_div_euclid n (pos m) <ℤ high
floor_below n m high p h =
    let q = int_div_euclid n (pos m) in
    by_lt_z q high (λ less. less)
    (λ more. let up : (pos m *ℤ high) ≤ℤ (pos m *ℤ q) = scaled m high q more in
    absurd (omega (arith, ints, up, h, euclid_split n m p, remainder_least n m p)))

-- the magnitude of a value with a sign
signed_magnitude : (w : ℕ) (a : ℤ) → InRange true w a → unsigned_abs a ≤ 2 ^ (w - 1)
signed_magnitude w a h = omega (arith, ints, h.0, h.1)

-- a product of values of a type: without a sign, and with one
unsigned_product : (w : ℕ) (a b : ℤ) → InRange false w a → InRange false w b → (pos 0 ≤ℤ (a *ℤ b)) × ((a *ℤ b) <ℤ pos (2 ^ w * 2 ^ w))
unsigned_product w (pos a) (pos b) p q =
    (omega (arith, ints), omega (arith, ints, mul-lt a b (2 ^ w) (2 ^ w) (omega (arith, ints, p.1)) (omega (arith, ints, q.1))))
unsigned_product w (pos a) (negsuc b) p q = absurd (omega (arith, ints, q.0))
unsigned_product w (negsuc a) b p q = absurd (omega (arith, ints, p.0))

signed_product : (w : ℕ) (a b : ℤ) → InRange true w a → InRange true w b → (neg_ℤ (pos (2 ^ (w - 1) * 2 ^ (w - 1))) ≤ℤ (a *ℤ b)) × ((a *ℤ b) ≤ℤ pos (2 ^ (w - 1) * 2 ^ (w - 1)))
signed_product w a b p q =
    let bound = mul-le (unsigned_abs a) (unsigned_abs b) (2 ^ (w - 1)) (2 ^ (w - 1)) (signed_magnitude w a p) (signed_magnitude w b q) in
    let whole : unsigned_abs (a *ℤ b) ≤ 2 ^ (w - 1) * 2 ^ (w - 1) = omega (arith, bound, unsigned_abs-mul a b) in
    (omega (arith, ints, whole), omega (arith, ints, whole))

-- half of the number of words, twice over
halves : (w : ℕ) → 0 < w → 2 ^ w ≡ 2 * 2 ^ (w - 1)
halves w p = omega (arith, power_halves w p)

square : (w : ℕ) → 2 ^ (2 * w) ≡ 2 ^ w * 2 ^ w
square w = let twice : 2 * w ≡ w + w = omega arith in ap (λ k. 2 ^ k) twice ∙ pow-add 2 w w

half_square : (w : ℕ) → 0 < w → 2 ^ (2 * w - 1) ≡ 2 ^ w * 2 ^ (w - 1)
half_square w p = let place : 2 * w - 1 ≡ w + (w - 1) = omega arith in ap (λ k. 2 ^ k) place ∙ pow-add 2 w (w - 1)

-- the high part of a product
product_high : (s : Bool) (w : ℕ) (a b : ℤ) → 0 < w → InRange s w a → InRange s w b → InRange s w (int_div_euclid (a *ℤ b) (pos (2 ^ w)))
product_high false w a b p x y =
    let n = unsigned_product w a b x y in (
      floor_least (a *ℤ b) (2 ^ w) (pos 0) (pow_pos w) (omega (arith, ints, int_mul_zero (pos (2 ^ w)), n.0)),
      floor_below (a *ℤ b) (2 ^ w) (pos (2 ^ w)) (pow_pos w) n.1,
    )
product_high true w a b p x y =
    let n = signed_product w a b x y in
    let h = 2 ^ (w - 1) in
    let whole : 2 ^ w * h ≡ 2 * (h * h) = ap (λ m. m * h) (halves w p) ∙ omega arith in
    let positive : 0 < h * h = mul-lt 0 0 h h (pow_pos (w - 1)) (pow_pos (w - 1)) in (
      floor_least (a *ℤ b) (2 ^ w) (neg_ℤ (pos h)) (pow_pos w) (omega (arith, ints, n.0, whole, int_mul_neg (pos (2 ^ w)) (pos h))),
      floor_below (a *ℤ b) (2 ^ w) (pos h) (pow_pos w) (omega (arith, ints, n.1, whole, positive)),
    )

-- a whole product, and a joined word, of twice the width
product_double : (s : Bool) (w : ℕ) (a b : ℤ) → 0 < w → InRange s w a → InRange s w b → InRange s (2 * w) (a *ℤ b)
product_double false w a b p x y = let n = unsigned_product w a b x y in (n.0, omega (arith, ints, n.1, square w))
product_double true w a b p x y =
    let n = signed_product w a b x y in
    let h = 2 ^ (w - 1) in
    let whole : 2 ^ (2 * w - 1) ≡ 2 * (h * h) = half_square w p ∙ ap (λ m. m * h) (halves w p) ∙ omega arith in
    let positive : 0 < h * h = mul-lt 0 0 h h (pow_pos (w - 1)) (pow_pos (w - 1)) in
    (omega (arith, ints, n.0, whole), omega (arith, ints, n.1, whole, positive))

joined_double : (s : Bool) (w : ℕ) (h l : ℤ) → 0 < w → InRange s w h → InRange false w l → InRange s (2 * w) (pos (2 ^ w) *ℤ h +ℤ l)
joined_double false w (negsuc h) l p x y = absurd (omega (arith, ints, x.0))
joined_double false w (pos h) (negsuc l) p x y = absurd (omega (arith, ints, y.0))
joined_double false w (pos h) (pos l) p x y =
    let below = mul-add-lt h (2 ^ w) l (2 ^ w) (omega (arith, ints, x.1)) (omega (arith, ints, y.1)) in
    (omega (arith, ints), omega (arith, ints, below, square w))
joined_double true w h l p x y =
    let m = pos (2 ^ w) in
    let half = 2 ^ (w - 1) in
    let low = scaled (2 ^ w) (neg_ℤ (pos half)) h x.0 in
    let high = scaled (2 ^ w) (h +ℤ pos 1) (pos half) (omega (arith, ints, x.1)) in (
      omega (arith, ints, low, int_mul_neg m (pos half), half_square w p, y.0),
      omega (arith, ints, high, int_mul_add m h (pos 1), int_mul_one m, half_square w p, y.1),
    )

-- the parts of a split word
split_high : (s : Bool) (w k : ℕ) (a : ℤ) → InRange s w a → InRange s w (int_div_euclid a (pos (2 ^ k)))
split_high false w k a x =
    let grows = product_at_least (2 ^ w) (2 ^ k) (pow_pos k) in (
      floor_least a (2 ^ k) (pos 0) (pow_pos k) (omega (arith, ints, int_mul_zero (pos (2 ^ k)), x.0)),
      floor_below a (2 ^ k) (pos (2 ^ w)) (pow_pos k) (omega (arith, ints, grows, x.1)),
    )
split_high true w k a x =
    let h = 2 ^ (w - 1) in
    let grows = product_at_least h (2 ^ k) (pow_pos k) in (
      floor_least a (2 ^ k) (neg_ℤ (pos h)) (pow_pos k) (omega (arith, ints, grows, int_mul_neg (pos (2 ^ k)) (pos h), x.0)),
      floor_below a (2 ^ k) (pos h) (pow_pos k) (omega (arith, ints, grows, x.1)),
    )

-- a remainder is an unsigned word, of any width from that of the divisor on
remainder_unsigned : (w k : ℕ) (n : ℤ) → k ≤ w → InRange false w (int_rem_euclid n (pos (2 ^ k)))
remainder_unsigned w k n h =
    (remainder_least n (2 ^ k) (pow_pos k), omega (arith, ints, remainder_below n (2 ^ k) (pow_pos k), powers))
  where
    powers : 2 ^ k ≤ 2 ^ w
    powers = pow-le-pow_right {n = 2} (omega arith) {i = k} {j = w} h

-- a bit is a value of its type
bit_in_type : (k : ℤ) → IsBit k → InType bit_type k
bit_in_type k b = elim b [ inl e ↦ (omega (arith, ints, e), omega (arith, ints, e)) | inr e ↦ (omega (arith, ints, e), omega (arith, ints, e)) ]

chosen_in_type : (T : Ty) (c : Bool) (a b : ℤ) → InType T a → InType T b → InType T (cond c a b)
chosen_in_type T true a b p q = p
chosen_in_type T false a b p q = q

amount_within : (n w : ℕ) → (nat_lt 0 n && nat_lt n w) ≡ true → n ≤ w
amount_within n w e = let less = ltb-true n w (and_parts (nat_lt 0 n) (nat_lt n w) e).1 in omega arith

pub results_fit : (op : Op) (T : Ty) (n : ℕ) (operands : List ℤ) → IsExecutable op T n operands → Fits (result_types op T) (results_of op T n operands)
results_fit Mov T n operands x = (asked Mov T n operands x 0 (Some T) refl, tt)
results_fit Add T n operands x = (wrap_in_type T (nth operands 0 +ℤ nth operands 1) x.type_of_words, tt)
results_fit Adds T n operands x =
    let row = ((step_agrees Adds T n operands (results_of Adds T n operands) x).1 refl).row in
    (bit_in_type _ row.carry, (row.low, tt))
results_fit Adc T n operands x = (wrap_in_type T (nth operands 0 +ℤ nth operands 1 +ℤ nth operands 2) x.type_of_words, tt)
results_fit Adcs T n operands x =
    let row = ((step_agrees Adcs T n operands (results_of Adcs T n operands) x).1 refl).row in
    (bit_in_type _ row.carry, (row.low, tt))
results_fit Sub T n operands x = (wrap_in_type T (nth operands 0 -ℤ nth operands 1) x.type_of_words, tt)
results_fit Subb T n operands x =
    let row = ((step_agrees Subb T n operands (results_of Subb T n operands) x).1 refl).row in
    (bit_in_type _ row.borrow, (row.low, tt))
results_fit Sbb T n operands x = (wrap_in_type T (nth operands 0 -ℤ nth operands 1 -ℤ nth operands 2) x.type_of_words, tt)
results_fit Sbbs T n operands x =
    let row = ((step_agrees Sbbs T n operands (results_of Sbbs T n operands) x).1 refl).row in
    (bit_in_type _ row.borrow, (row.low, tt))
results_fit Mul T n operands x = (wrap_in_type T (nth operands 0 *ℤ nth operands 1) x.type_of_words, tt)
results_fit Mull T n operands x =
    let a : InType T (nth operands 0) = asked Mull T n operands x 0 (Some T) refl in
    let b : InType T (nth operands 1) = asked Mull T n operands x 1 (Some T) refl in
    let same : T.width ≤ T.width = omega arith in
    (product_high T.signed T.width (nth operands 0) (nth operands 1) (type_width T x.type_of_words) a b, (remainder_unsigned T.width T.width (nth operands 0 *ℤ nth operands 1) same, tt))
results_fit Mulj T n operands x =
    let a : InType T (nth operands 0) = asked Mulj T n operands x 0 (Some T) refl in
    let b : InType T (nth operands 1) = asked Mulj T n operands x 1 (Some T) refl in
    (product_double T.signed T.width (nth operands 0) (nth operands 1) (type_width T x.type_of_words) a b, tt)
results_fit Shl T n operands x = (wrap_in_type T (nth operands 0 *ℤ pos (2 ^ n)) x.type_of_words, tt)
results_fit Split T n operands x =
    let a : InType T (nth operands 0) = asked Split T n operands x 0 (Some T) refl in
    (split_high T.signed T.width n (nth operands 0) a, (remainder_unsigned T.width n (nth operands 0) (amount_within n T.width x.amount), tt))
results_fit Join T n operands x =
    let h : InType T (nth operands 0) = asked Join T n operands x 0 (Some T) refl in
    let l : InType (unsigned_of T) (nth operands 1) = asked Join T n operands x 1 (Some (unsigned_of T)) refl in
    (joined_double T.signed T.width (nth operands 0) (nth operands 1) (type_width T x.type_of_words) h l, tt)
results_fit Cast T n operands x = (wrap_in_type T (nth operands 0) x.type_of_words, tt)
results_fit Vpc T n operands x = (wrap_in_type T (nth operands 0) x.type_of_words, tt)
results_fit Cmov T n operands x =
    (chosen_in_type T _ (nth operands 1) (nth operands 2) (asked Cmov T n operands x 1 (Some T) refl) (asked Cmov T n operands x 2 (Some T) refl), tt)
results_fit And T n operands x = (wrap_in_type T (pos (bit_and (pattern_of T.width (nth operands 0)) (pattern_of T.width (nth operands 1)))) x.type_of_words, tt)
results_fit Or T n operands x = (wrap_in_type T (pos (bit_or (pattern_of T.width (nth operands 0)) (pattern_of T.width (nth operands 1)))) x.type_of_words, tt)
results_fit Xor T n operands x = (wrap_in_type T (pos (bit_xor (pattern_of T.width (nth operands 0)) (pattern_of T.width (nth operands 1)))) x.type_of_words, tt)
results_fit Not T n operands x = (wrap_in_type T (pos (2 ^ T.width - 1 - pattern_of T.width (nth operands 0))) x.type_of_words, tt)
results_fit Nondet T n operands x = (asked Nondet T n operands x 0 (Some T) refl, tt)

-- the types of results are types of words
abbrev pub AreTypes : List Ty → Type 0
AreTypes [] = Unit {0}
AreTypes (T ∷ Ts) = IsTy T × AreTypes Ts

pub bit_is_type : IsTy bit_type
bit_is_type = (omega arith, omega arith)

pub unsigned_is_type : (T : Ty) → IsTy T → IsTy (unsigned_of T)
unsigned_is_type T t = let w = type_width T t in (omega arith, t.1)

double_is_type : (T : Ty) → IsTy T → nat_le T.width 32 ≡ true → IsTy (double_of T)
double_is_type T t e = let below = leb-true T.width 32 e in (omega (arith, t.0), omega arith)

pub result_types_are : (op : Op) (T : Ty) → IsTy T → allows op T ≡ true → AreTypes (result_types op T)
result_types_are Adds T t a = (bit_is_type, (t, tt))
result_types_are Adcs T t a = (bit_is_type, (t, tt))
result_types_are Subb T t a = (bit_is_type, (t, tt))
result_types_are Sbbs T t a = (bit_is_type, (t, tt))
result_types_are Mull T t a = (t, (unsigned_is_type T t, tt))
result_types_are Mulj T t a = (double_is_type T t a, tt)
result_types_are Split T t a = (t, (unsigned_is_type T t, tt))
result_types_are Join T t a = (double_is_type T t a, tt)
result_types_are Mov T t a = (t, tt)
result_types_are Add T t a = (t, tt)
result_types_are Adc T t a = (t, tt)
result_types_are Sub T t a = (t, tt)
result_types_are Sbb T t a = (t, tt)
result_types_are Mul T t a = (t, tt)
result_types_are Shl T t a = (t, tt)
result_types_are Cast T t a = (t, tt)
result_types_are Vpc T t a = (t, tt)
result_types_are Cmov T t a = (t, tt)
result_types_are And T t a = (t, tt)
result_types_are Or T t a = (t, tt)
result_types_are Xor T t a = (t, tt)
result_types_are Not T t a = (t, tt)
result_types_are Nondet T t a = (t, tt)
