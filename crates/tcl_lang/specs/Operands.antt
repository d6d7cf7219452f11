-- The operands with which an instruction can be executed: values of the types that typing asks.
use Rattle.std.specs.Prelude.{◌≡◌, ℕ, ◌^◌, ℤ, pos, neg_ℤ, ◌≤ℤ◌, ◌<ℤ◌, true, List, [], ◌∷◌, Option, Some, None, IfSome, slice_get, Bool, ◌&&◌, int_le, int_lt}
use Rattle.tcl_lang.specs.declared.ty.Ty.{Ty}
use Rattle.tcl_lang.specs.declared.instr.Op.{Op}
use Rattle.tcl_lang.specs.declared.instr.Op.TheVariants.{Nondet}
use Rattle.tcl_lang.specs.Types.{IsTy, InType, is_ty, is_in_type}
use Rattle.tcl_lang.specs.Typing.{operand_types, allows, allows_amount}

-- the types of the operands, among them that of the choice; `None` where a value of any type may stand
abbrev pub asked_types : Op → Ty → List (Option Ty)
asked_types Nondet T = Some T ∷ []
asked_types op T = operand_types op T

-- a value of some type
pub record IsWordValue (n : ℤ) : Type 0 where
  pub least : neg_ℤ (pos (2 ^ 63)) ≤ℤ n
  pub below : n <ℤ pos (2 ^ 64)

-- a value that may stand where this type is asked
abbrev pub MayStand : Option Ty → ℤ → Type 0
MayStand None n = IsWordValue n
MayStand (Some T) n = InType T n

-- the operands are values of these types, one of each
abbrev pub AreOperands : List (Option Ty) → List ℤ → Type 0
AreOperands [] [] = Unit {0}
AreOperands [] (n ∷ ns) = ⊥
AreOperands (T ∷ Ts) [] = ⊥
AreOperands (T ∷ Ts) (n ∷ ns) = MayStand T n × AreOperands Ts ns

-- the instruction at the type T with the amount n can be executed at these operands
pub record IsExecutable (op : Op) (T : Ty) (n : ℕ) (operands : List ℤ) : Type 0 where
  pub type_of_words : IsTy T
  pub allowed : allows op T ≡ true
  pub amount : allows_amount op T n ≡ true
  pub values : AreOperands (asked_types op T) operands

-- operand k of the instruction may be this value; any value where it has no operand k
abbrev pub StandsAt : Op → Ty → ℕ → ℤ → Type 0
StandsAt op T k n = IfSome (slice_get (asked_types op T) k) (λ U. MayStand U n)

-- the same, of values a, b, c of words, of which the instruction reads as many as it has operands
pub record HasOperands (op : Op) (T : Ty) (n : ℕ) (a b c : ℤ) : Type 0 where
  pub type_of_words : IsTy T
  pub allowed : allows op T ≡ true
  pub amount : allows_amount op T n ≡ true
  pub words : IsWordValue a × IsWordValue b × IsWordValue c
  pub first : StandsAt op T 0 a
  pub second : StandsAt op T 1 b
  pub third : StandsAt op T 2 c

-- the same as a test
abbrev pub may_stand : Option Ty → ℤ → Bool
may_stand None n = int_le (neg_ℤ (pos (2 ^ 63))) n && int_lt n (pos (2 ^ 64))
may_stand (Some T) n = is_in_type T n

abbrev pub stands_in : Option (Option Ty) → ℤ → Bool
stands_in None n = true
stands_in (Some T) n = may_stand T n

abbrev pub has_operands : Op → Ty → ℕ → ℤ → ℤ → ℤ → Bool
has_operands op T n a b c =
    is_ty T && allows op T && allows_amount op T n && may_stand None a && may_stand None b && may_stand None c
    && stands_in (slice_get (asked_types op T) 0) a && stands_in (slice_get (asked_types op T) 1) b
    && stands_in (slice_get (asked_types op T) 2) c
