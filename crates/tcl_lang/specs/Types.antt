-- Types of words, and the integers that a word of a type holds.
use Rattle.std.specs.Prelude.{ℕ, ◌*◌, ◌^◌, ◌≤◌, ℤ, pos, int_lt, int_le, nat_le, ◌==◌, Bool, false, not, ◌&&◌, if◌then◌else◌}
use Rattle.tcl_num.specs.Congruence.{Congruent}
use Rattle.tcl_num.specs.Range.{InRange, wrapped, least_value, values_end}
use Rattle.tcl_lang.specs.declared.ty.Ty.{Ty}

-- the narrowest word: one bit, and two bits with a sign
abbrev pub least_width : Bool → ℕ
least_width signed = if signed then 2 else 1

-- the types are u1 to u64 and s2 to s64
abbrev pub IsTy : Ty → Type 0
IsTy T = (least_width T.signed ≤ T.width) × (T.width ≤ 64)

-- the same as a test
abbrev pub is_ty : Ty → Bool
is_ty T = nat_le (least_width T.signed) T.width && nat_le T.width 64

-- n is a value of the type: 0 to 2 ^ w - 1, with a sign - 2 ^ (w - 1) to 2 ^ (w - 1) - 1
abbrev pub InType : Ty → ℤ → Type 0
InType T n = InRange T.signed T.width n

-- the same as a test
abbrev pub is_in_type : Ty → ℤ → Bool
is_in_type T n = int_le (least_value T.signed T.width) n && int_lt n (values_end T.signed T.width)

-- the value of the type that is congruent to n modulo 2 ^ w
abbrev pub wrap_of : Ty → ℤ → ℤ
wrap_of T n = wrapped T.signed T.width n

-- v is such a value
pub record IsWrap (T : Ty) (n v : ℤ) : Type 0 where
  pub in_type : InType T v
  pub congruent : Congruent (pos (2 ^ T.width)) v n

-- the type of one bit
abbrev pub bit_type : Ty
bit_type = record { signed = false; width = 1 }

-- the unsigned type of the same width
abbrev pub unsigned_of : Ty → Ty
unsigned_of T = record { signed = false; width = T.width }

-- the type of the same sign and twice the width
abbrev pub double_of : Ty → Ty
double_of T = record { signed = T.signed; width = 2 * T.width }

-- equality of signs, and of types, as a test
abbrev pub same_sign : Bool → Bool → Bool
same_sign s t = if s then t else not t

abbrev pub same_type : Ty → Ty → Bool
same_type T U = same_sign T.signed U.signed && T.width == U.width
