-- The bits of the results of each instruction are those of the values that it computes.
use Rattle.std.proofs.Common.{◌≡◌, ℕ, ◌<◌, ◌≤◌, Bool, true, false, ◌&&◌, ◌||◌, nat_lt, List, [], ◌∷◌, refl, ap, subst, arith, ℤ, pos, ◌+ℤ◌, ◌-ℤ◌, bit_and, bit_or, bit_xor}
use Rattle.std.proofs.lemmas.Int.{ints}
use Rattle.std.proofs.lemmas.Bool.{ltb-true, and_parts}
use Rattle.tcl_lang.specs.declared.ty.Ty.{Ty}
use Rattle.tcl_lang.specs.declared.instr.Op.{Op}
use Rattle.tcl_lang.specs.declared.instr.Op.TheVariants.{Mov, Add, Adds, Adc, Adcs, Sub, Subb, Sbb, Sbbs, Mul, Mull, Mulj, Shl, Split, Join, Cast, Vpc, Cmov, And, Or, Xor, Not, Nondet}
use Rattle.tcl_lang.specs.Types.{IsTy, least_width, wrap_of}
use Rattle.tcl_lang.specs.Typing.{allows, allows_amount}
use Rattle.tcl_lang.specs.Results.{parts_of, borrow_of, row_results, result_types}
use Rattle.tcl_bits.specs.Circuit.{xor_bit, met_bits}
use Rattle.tcl_bits.proofs.Bitwise.{and_law, or_law, xor_law, length-met_bits}
use Rattle.tcl_words.proofs.Values.{bit_is, sum_is, difference_is, carry_words, borrow_words, mull_words, split_words, full_is, product_is, shift_is, join_is, cast_is, met_is, flip_is, choice_is, same_length}
use Rattle.tcl_words.specs.Instructions.{first_bit, result_bits}
use Rattle.tcl_words.specs.Words.{IsWord, AreWords, AreOperands}
use Rattle.tcl_words.specs.Words.AreWords.{none, word}

pub width_positive : (T : Ty) → IsTy T → 0 < T.width
width_positive T h = positive_by T.signed T.width h.0
  where
    positive_by : (s : Bool) (w : ℕ) → least_width s ≤ w → 0 < w
    positive_by true w h = omega (arith, h)
    positive_by false w h = omega (arith, h)

one : {T : Ty} {bits : List Bool} {m n : ℤ} → m ≡ n → IsWord T bits m → AreWords (T ∷ []) (bits ∷ []) (n ∷ [])
one {T} {bits} e h = subst (λ n. AreWords (T ∷ []) (bits ∷ []) (n ∷ [])) e (word h none)

pub sum_none : (x y : ℤ) → x +ℤ y +ℤ pos 0 ≡ x +ℤ y
sum_none x y = omega (arith, ints)

pub difference_none : (x y : ℤ) → x -ℤ y -ℤ pos 0 ≡ x -ℤ y
difference_none x y = omega (arith, ints)

pub results_are : (xs ys zs : List Bool) (a b c : ℤ) (op : Op) (T S : Ty) (n : ℕ) → IsTy T → allows op T ≡ true → allows_amount op T n ≡ true → AreOperands op T S xs ys zs a b c
    → AreWords (result_types op T) (result_bits op T S n xs ys zs) (row_results op T n a b c)
results_are xs ys zs a b c Mov T S n t k m h = one refl h
results_are xs ys zs a b c Add T S n t k m h = one (ap (wrap_of T) (sum_none a b)) (sum_is false (width_positive T t) h.0 h.1)
results_are xs ys zs a b c Adds T S n t k m h = subst (λ v. AreWords (result_types Adds T) (result_bits Adds T S n xs ys zs) (parts_of T.width v)) (sum_none a b) (carry_words false k h.0 h.1)
results_are xs ys zs a b c Adc T S n t k m h = one (ap (λ v. wrap_of T (a +ℤ b +ℤ v)) (bit_is h.2)) (sum_is _ (width_positive T t) h.0 h.1)
results_are xs ys zs a b c Adcs T S n t k m h =
    subst (λ v. AreWords (result_types Adcs T) (result_bits Adcs T S n xs ys zs) (parts_of T.width (a +ℤ b +ℤ v))) (bit_is h.2) (carry_words (first_bit zs) k h.0 h.1)
results_are xs ys zs a b c Sub T S n t k m h = one (ap (wrap_of T) (difference_none a b)) (difference_is false (width_positive T t) h.0 h.1)
results_are xs ys zs a b c Subb T S n t k m h = subst (λ v. AreWords (result_types Subb T) (result_bits Subb T S n xs ys zs) (borrow_of T.width v)) (difference_none a b) (borrow_words false k h.0 h.1)
results_are xs ys zs a b c Sbb T S n t k m h = one (ap (λ v. wrap_of T (a -ℤ b -ℤ v)) (bit_is h.2)) (difference_is _ (width_positive T t) h.0 h.1)
results_are xs ys zs a b c Sbbs T S n t k m h =
    subst (λ v. AreWords (result_types Sbbs T) (result_bits Sbbs T S n xs ys zs) (borrow_of T.width (a -ℤ b -ℤ v))) (bit_is h.2) (borrow_words (first_bit zs) k h.0 h.1)
results_are xs ys zs a b c Mul T S n t k m h = one refl (product_is (width_positive T t) h.0 h.1)
results_are xs ys zs a b c Mull T S n t k m h = mull_words (width_positive T t) h.0 h.1
results_are xs ys zs a b c Mulj T S n t k m h = one refl (full_is (width_positive T t) h.0 h.1)
results_are xs ys zs a b c Shl T S n t k m h = one refl (shift_is n (ltb-true n T.width m) h)
results_are xs ys zs a b c Split T S n t k m h = split_words n (ltb-true n T.width (and_parts (nat_lt 0 n) (nat_lt n T.width) m).1) h
results_are xs ys zs a b c Join T S n t k m h = one refl (join_is (width_positive T t) h.0 h.1)
results_are xs ys zs a b c Cast T S n t k m h = one refl (cast_is (width_positive T t) h)
results_are xs ys zs a b c Vpc T S n t k m h = one refl (cast_is (width_positive T t) h)
results_are xs ys zs a b c Cmov T S n t k m h = one refl (choice_is (first_bit xs) (bit_is h.0) h.1 h.2)
results_are xs ys zs a b c And T S n t k m h = one refl (met_is {zs = met_bits (λ x y. x && y) xs ys} bit_and (length-met_bits (λ x y. x && y) xs ys (same_length h.0 h.1)) (and_law xs ys (same_length h.0 h.1)) (width_positive T t) h.0 h.1)
results_are xs ys zs a b c Or T S n t k m h = one refl (met_is {zs = met_bits (λ x y. x || y) xs ys} bit_or (length-met_bits (λ x y. x || y) xs ys (same_length h.0 h.1)) (or_law xs ys (same_length h.0 h.1)) (width_positive T t) h.0 h.1)
results_are xs ys zs a b c Xor T S n t k m h = one refl (met_is {zs = met_bits xor_bit xs ys} bit_xor (length-met_bits xor_bit xs ys (same_length h.0 h.1)) (xor_law xs ys (same_length h.0 h.1)) (width_positive T t) h.0 h.1)
results_are xs ys zs a b c Not T S n t k m h = one refl (flip_is (width_positive T t) h)
results_are xs ys zs a b c Nondet T S n t k m h = one refl h
