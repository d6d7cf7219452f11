-- The row of each instruction and its computed results agree.
use Rattle.std.proofs.Common.{◌≡◌, ◌↔◌, ℕ, zero, suc, ◌+◌, ◌-◌, ◌^◌, ◌<◌, refl, sym, subst, arith, ℤ, pos, ◌+ℤ◌, ◌-ℤ◌, ◌*ℤ◌, ◌≤ℤ◌, Bool, true, false, not, List, [], ◌∷◌, length, Option, Some}
use Rattle.std.specs.List.{slice_get}
use Rattle.std.proofs.lemmas.Int.{ints}
use Rattle.std.proofs.lemmas.Nat.{pow_pos, or_lt, xor_lt}
use Rattle.std.specs.Int.Bits.{and_lt}
use Rattle.tcl_num.specs.Range.{InRange}
use Rattle.tcl_lang.specs.declared.ty.Ty.{Ty}
use Rattle.tcl_lang.specs.declared.instr.Op.{Op}
use Rattle.tcl_lang.specs.declared.instr.Op.TheVariants.{Mov, Add, Adds, Adc, Adcs, Sub, Subb, Sbb, Sbbs, Mul, Mull, Mulj, Shl, Split, Join, Cast, Vpc, Cmov, And, Or, Xor, Not, Nondet}
use Rattle.tcl_lang.specs.Types.{InType, IsWrap, bit_type}
use Rattle.tcl_lang.specs.Store.{pattern_of}
use Rattle.tcl_lang.specs.Instruction.{Relates, Executes, result_count, nth}
use Rattle.tcl_lang.specs.Results.{parts_of, borrow_of, results_of}
use Rattle.tcl_lang.specs.Operands.{asked_types, MayStand, AreOperands, IsExecutable}
use Rattle.tcl_lang.specs.Laws.{OneWrap, RowsAgree}
use Rattle.tcl_lang.proofs.WrappedWords.{wrap_is_wrap, wrap_only}
use Rattle.tcl_lang.proofs.ResultRows.{exact_row, wrap_row, carry_row, borrow_row, split_row, pattern_row, pattern_below, choice_row}

-- operand k is a value of the type that is asked
pub operand_at : (Ts : List (Option Ty)) (ns : List ℤ) (k : ℕ) (T : Option Ty) → AreOperands Ts ns → slice_get Ts k ≡ Some T → MayStand T (nth ns k)
operand_at [] [] k T p e = absurd (cc)
operand_at [] (n ∷ ns) k T p e = absurd p
operand_at (U ∷ Us) [] k T p e = absurd p
operand_at (U ∷ Us) (n ∷ ns) zero T p e = subst (λ t. MayStand t n) (some_same e) p.0
  where
    some_same : Some U ≡ Some T → U ≡ T
    some_same h = cc
operand_at (U ∷ Us) (n ∷ ns) (suc k) T p e = operand_at Us ns k T p.1 e

pub asked : (op : Op) (T : Ty) (n : ℕ) (operands : List ℤ) → IsExecutable op T n operands → (k : ℕ) (U : Option Ty) → slice_get (asked_types op T) k ≡ Some U → MayStand U (nth operands k)
asked op T n operands x k U e = operand_at (asked_types op T) operands k U x.values e

-- the range of an unsigned word
pub unsigned_range : (T : Ty) (n : ℤ) → not T.signed ≡ true → InType T n → InRange false T.width n
unsigned_range T n u h = unsigned_at T.signed T.width n u h
  where
    unsigned_at : (s : Bool) (w : ℕ) (n : ℤ) → not s ≡ true → InRange s w n → InRange false w n
    unsigned_at true w n u h = absurd (cc)
    unsigned_at false w n u h = h

lift : (op : Op) (T : Ty) (n : ℕ) (operands results expected : List ℤ) → (((length results ≡ result_count op) × Relates op T n (nth operands 0) (nth operands 1) (nth operands 2) (nth results 0) (nth results 1)) ↔ (results ≡ expected)) → Executes op T n operands results ↔ (results ≡ expected)
lift op T n operands results expected p = (λ e. p.0 (e.count, e.row), λ q. let r = p.1 q in record { count = r.0; row = r.1 })

-- sums and differences of words and bits stay below twice the number of words
carry_sum : (T : Ty) (a b : ℤ) (results : List ℤ) → not T.signed ≡ true → InType T a → InType T b → ((length results ≡ 2) × Relates Adds T 0 a b (pos 0) (nth results 0) (nth results 1)) ↔ (results ≡ parts_of T.width (a +ℤ b))
carry_sum T a b results u p q =
    let r = unsigned_range T a u p in let s = unsigned_range T b u q in
    carry_row T (a +ℤ b) results u (omega (arith, ints, r.0, s.0)) (omega (arith, ints, r.1, s.1))

carry_sum_with : (T : Ty) (a b c : ℤ) (results : List ℤ) → not T.signed ≡ true → InType T a → InType T b → InType bit_type c → ((length results ≡ 2) × Relates Adcs T 0 a b c (nth results 0) (nth results 1)) ↔ (results ≡ parts_of T.width (a +ℤ b +ℤ c))
carry_sum_with T a b c results u p q k =
    let r = unsigned_range T a u p in let s = unsigned_range T b u q in
    let above : (a +ℤ b) ≤ℤ pos (2 ^ T.width + 2 ^ T.width - 2) = omega (arith, ints, r.1, s.1, pow_pos T.width) in
    carry_row T (a +ℤ b +ℤ c) results u (omega (arith, ints, r.0, s.0, k.0)) (omega (arith, ints, above, k.1, pow_pos T.width))

borrow_difference : (T : Ty) (a b : ℤ) (results : List ℤ) → not T.signed ≡ true → InType T a → InType T b → ((length results ≡ 2) × Relates Subb T 0 a b (pos 0) (nth results 0) (nth results 1)) ↔ (results ≡ borrow_of T.width (a -ℤ b))
borrow_difference T a b results u p q =
    let r = unsigned_range T a u p in let s = unsigned_range T b u q in
    borrow_row T (a -ℤ b) results u (omega (arith, ints, r.0, s.1)) (omega (arith, ints, r.1, s.0))

borrow_difference_with : (T : Ty) (a b c : ℤ) (results : List ℤ) → not T.signed ≡ true → InType T a → InType T b → InType bit_type c → ((length results ≡ 2) × Relates Sbbs T 0 a b c (nth results 0) (nth results 1)) ↔ (results ≡ borrow_of T.width (a -ℤ b -ℤ c))
borrow_difference_with T a b c results u p q k =
    let r = unsigned_range T a u p in let s = unsigned_range T b u q in
    borrow_row T (a -ℤ b -ℤ c) results u (omega (arith, ints, r.0, s.1, k.1)) (omega (arith, ints, r.1, s.0, k.0))

pub step_agrees : (op : Op) (T : Ty) (n : ℕ) (operands results : List ℤ) → IsExecutable op T n operands → Executes op T n operands results ↔ (results ≡ results_of op T n operands)
step_agrees Mov T n operands results x = lift Mov T n operands results _ (exact_row results (nth operands 0))
step_agrees Add T n operands results x = lift Add T n operands results _ (wrap_row T (nth operands 0 +ℤ nth operands 1) results x.type_of_words)
step_agrees Adds T n operands results x =
    lift Adds T n operands results _ (carry_sum T (nth operands 0) (nth operands 1) results x.allowed (asked Adds T n operands x 0 (Some T) refl) (asked Adds T n operands x 1 (Some T) refl))
step_agrees Adc T n operands results x = lift Adc T n operands results _ (wrap_row T (nth operands 0 +ℤ nth operands 1 +ℤ nth operands 2) results x.type_of_words)
step_agrees Adcs T n operands results x =
    lift Adcs T n operands results _ (carry_sum_with T (nth operands 0) (nth operands 1) (nth operands 2) results x.allowed (asked Adcs T n operands x 0 (Some T) refl) (asked Adcs T n operands x 1 (Some T) refl) (asked Adcs T n operands x 2 (Some bit_type) refl))
step_agrees Sub T n operands results x = lift Sub T n operands results _ (wrap_row T (nth operands 0 -ℤ nth operands 1) results x.type_of_words)
step_agrees Subb T n operands results x =
    lift Subb T n operands results _ (borrow_difference T (nth operands 0) (nth operands 1) results x.allowed (asked Subb T n operands x 0 (Some T) refl) (asked Subb T n operands x 1 (Some T) refl))
step_agrees Sbb T n operands results x = lift Sbb T n operands results _ (wrap_row T (nth operands 0 -ℤ nth operands 1 -ℤ nth operands 2) results x.type_of_words)
step_agrees Sbbs T n operands results x =
    lift Sbbs T n operands results _ (borrow_difference_with T (nth operands 0) (nth operands 1) (nth operands 2) results x.allowed (asked Sbbs T n operands x 0 (Some T) refl) (asked Sbbs T n operands x 1 (Some T) refl) (asked Sbbs T n operands x 2 (Some bit_type) refl))
step_agrees Mul T n operands results x = lift Mul T n operands results _ (wrap_row T (nth operands 0 *ℤ nth operands 1) results x.type_of_words)
step_agrees Mull T n operands results x = lift Mull T n operands results _ (split_row T.width (nth operands 0 *ℤ nth operands 1) results)
step_agrees Mulj T n operands results x = lift Mulj T n operands results _ (exact_row results (nth operands 0 *ℤ nth operands 1))
step_agrees Shl T n operands results x = lift Shl T n operands results _ (wrap_row T (nth operands 0 *ℤ pos (2 ^ n)) results x.type_of_words)
step_agrees Split T n operands results x = lift Split T n operands results _ (split_row n (nth operands 0) results)
step_agrees Join T n operands results x = lift Join T n operands results _ (exact_row results (pos (2 ^ T.width) *ℤ nth operands 0 +ℤ nth operands 1))
step_agrees Cast T n operands results x = lift Cast T n operands results _ (wrap_row T (nth operands 0) results x.type_of_words)
step_agrees Vpc T n operands results x = lift Vpc T n operands results _ (wrap_row T (nth operands 0) results x.type_of_words)
step_agrees Cmov T n operands results x =
    let bit : InType bit_type (nth operands 0) = asked Cmov T n operands x 0 (Some bit_type) refl in
    lift Cmov T n operands results _ (choice_row (nth operands 0) (nth operands 1) (nth operands 2) results bit.0 bit.1)
step_agrees And T n operands results x =
    lift And T n operands results _ (pattern_row T _ results x.type_of_words (and_lt T.width _ _ (pattern_below T.width (nth operands 0)) (pattern_below T.width (nth operands 1))))
step_agrees Or T n operands results x =
    lift Or T n operands results _ (pattern_row T _ results x.type_of_words (or_lt T.width _ _ (pattern_below T.width (nth operands 0)) (pattern_below T.width (nth operands 1))))
step_agrees Xor T n operands results x =
    lift Xor T n operands results _ (pattern_row T _ results x.type_of_words (xor_lt T.width _ _ (pattern_below T.width (nth operands 0)) (pattern_below T.width (nth operands 1))))
step_agrees Not T n operands results x =
    let below : 2 ^ T.width - 1 - pattern_of T.width (nth operands 0) < 2 ^ T.width = omega (arith, pow_pos T.width) in
    lift Not T n operands results _ (pattern_row T _ results x.type_of_words below)
step_agrees Nondet T n operands results x = lift Nondet T n operands results _ (exact_row results (nth operands 0))

pub rows_agree : RowsAgree
rows_agree op T n operands results x = step_agrees op T n operands results x

pub one_wrap : OneWrap
one_wrap T n v t = (λ w. wrap_only T n v t w, λ e. subst (λ x. IsWrap T n x) (sym e) (wrap_is_wrap T n t))
