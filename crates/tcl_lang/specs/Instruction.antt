-- What each instruction does, as equations over the integers. In a row T is the stated type and w its width, n the
-- amount, a, b, c are the operands and x, y the results, each from left to right; the operand of `nondet` is the choice.
-- The equations and ranges of a row fix its results.
use Rattle.std.specs.Prelude.{◌≡◌, ◌≢◌, ◌⊎◌, ℕ, ◌-◌, ◌^◌, ℤ, pos, ◌+ℤ◌, ◌-ℤ◌, ◌*ℤ◌, bit_and, bit_or, bit_xor, List, length, slice_index_or}
use Rattle.tcl_num.specs.Range.{InRange}
use Rattle.tcl_lang.specs.declared.ty.Ty.{Ty}
use Rattle.tcl_lang.specs.declared.instr.Op.{Op}
use Rattle.tcl_lang.specs.declared.instr.Op.TheVariants.{Mov, Add, Adds, Adc, Adcs, Sub, Subb, Sbb, Sbbs, Mul, Mull, Mulj, Shl, Split, Join, Cast, Vpc, Cmov, And, Or, Xor, Not, Nondet}
use Rattle.tcl_lang.specs.Types.{InType, IsWrap}
use Rattle.tcl_lang.specs.Store.{pattern_of}
use Rattle.std.specs.Prelude.{false}

-- a bit as an integer
abbrev pub IsBit : ℤ → Type 0
IsBit k = (k ≡ pos 0) ⊎ (k ≡ pos 1)

-- x in T and the bit k are the low and the high part of the sum n: x + 2 ^ w k = n
pub record IsSumWithCarry (T : Ty) (n k x : ℤ) : Type 0 where
  pub carry : IsBit k
  pub low : InType T x
  pub whole : x +ℤ pos (2 ^ T.width) *ℤ k ≡ n

-- x in T and the bit k are the low part and the borrow of the difference n: x - 2 ^ w k = n
pub record IsDifferenceWithBorrow (T : Ty) (n k x : ℤ) : Type 0 where
  pub borrow : IsBit k
  pub low : InType T x
  pub whole : x -ℤ pos (2 ^ T.width) *ℤ k ≡ n

-- l below 2 ^ k and h are the low and the high part of n: 2 ^ k h + l = n
pub record IsSplit (k : ℕ) (n h l : ℤ) : Type 0 where
  pub low : InRange false k l
  pub whole : pos (2 ^ k) *ℤ h +ℤ l ≡ n

-- x is in T and its bit pattern is this number
pub record HasPattern (T : Ty) (pattern : ℕ) (x : ℤ) : Type 0 where
  pub in_type : InType T x
  pub bits : pattern_of T.width x ≡ pattern

-- x is a where the bit c is one, and b otherwise
pub record IsChoice (c a b x : ℤ) : Type 0 where
  pub chosen : c ≡ pos 1 → x ≡ a
  pub otherwise : c ≢ pos 1 → x ≡ b

-- the row of each instruction
abbrev pub Relates : Op → Ty → ℕ → ℤ → ℤ → ℤ → ℤ → ℤ → Type 0
Relates Mov T n a b c x y = x ≡ a
Relates Add T n a b c x y = IsWrap T (a +ℤ b) x
Relates Adds T n a b c x y = IsSumWithCarry T (a +ℤ b) x y
Relates Adc T n a b c x y = IsWrap T (a +ℤ b +ℤ c) x
Relates Adcs T n a b c x y = IsSumWithCarry T (a +ℤ b +ℤ c) x y
Relates Sub T n a b c x y = IsWrap T (a -ℤ b) x
Relates Subb T n a b c x y = IsDifferenceWithBorrow T (a -ℤ b) x y
Relates Sbb T n a b c x y = IsWrap T (a -ℤ b -ℤ c) x
Relates Sbbs T n a b c x y = IsDifferenceWithBorrow T (a -ℤ b -ℤ c) x y
Relates Mul T n a b c x y = IsWrap T (a *ℤ b) x
Relates Mull T n a b c x y = IsSplit T.width (a *ℤ b) x y
Relates Mulj T n a b c x y = x ≡ a *ℤ b
Relates Shl T n a b c x y = IsWrap T (a *ℤ pos (2 ^ n)) x
Relates Split T n a b c x y = IsSplit n a x y
Relates Join T n a b c x y = x ≡ pos (2 ^ T.width) *ℤ a +ℤ b
Relates Cast T n a b c x y = IsWrap T a x
Relates Vpc T n a b c x y = IsWrap T a x
Relates Cmov T n a b c x y = IsChoice a b c x
Relates And T n a b c x y = HasPattern T (bit_and (pattern_of T.width a) (pattern_of T.width b)) x
Relates Or T n a b c x y = HasPattern T (bit_or (pattern_of T.width a) (pattern_of T.width b)) x
Relates Xor T n a b c x y = HasPattern T (bit_xor (pattern_of T.width a) (pattern_of T.width b)) x
Relates Not T n a b c x y = HasPattern T (2 ^ T.width - 1 - pattern_of T.width a) x
Relates Nondet T n a b c x y = x ≡ a

-- how many results an instruction has
abbrev pub result_count : Op → ℕ
result_count Adds = 2
result_count Adcs = 2
result_count Subb = 2
result_count Sbbs = 2
result_count Mull = 2
result_count Split = 2
result_count _ = 1

-- how many operands it has; `nondet` has none
abbrev pub operand_count : Op → ℕ
operand_count Mov = 1
operand_count Adc = 3
operand_count Adcs = 3
operand_count Sbb = 3
operand_count Sbbs = 3
operand_count Shl = 1
operand_count Split = 1
operand_count Cast = 1
operand_count Vpc = 1
operand_count Cmov = 3
operand_count Not = 1
operand_count Nondet = 0
operand_count _ = 2

-- item k of a list of integers
abbrev pub nth : List ℤ → ℕ → ℤ
nth ns k = slice_index_or ns k (pos 0)

-- the instruction takes these operands to these results
pub record Executes (op : Op) (T : Ty) (n : ℕ) (operands results : List ℤ) : Type 0 where
  pub count : length results ≡ result_count op
  pub row : Relates op T n (nth operands 0) (nth operands 1) (nth operands 2) (nth results 0) (nth results 1)
