-- The condition under which an instruction is an equation of integers: the mathematical result lies in the type.
use Rattle.std.specs.Prelude.{ℕ, ◌^◌, ℤ, pos, ◌+ℤ◌, ◌-ℤ◌, ◌*ℤ◌, Bool, true, false, not, ◌||◌, List}
use Rattle.tcl_lang.specs.declared.ty.Ty.{Ty}
use Rattle.tcl_lang.specs.declared.instr.Op.{Op}
use Rattle.tcl_lang.specs.declared.instr.Op.TheVariants.{Add, Adc, Sub, Sbb, Mul, Shl, Vpc}
use Rattle.tcl_lang.specs.Types.{is_in_type}
use Rattle.tcl_lang.specs.Instruction.{nth}

-- the instructions that have such a condition
abbrev pub has_condition : Op → Bool
has_condition Add = true
has_condition Adc = true
has_condition Sub = true
has_condition Sbb = true
has_condition Mul = true
has_condition Shl = true
has_condition Vpc = true
has_condition _ = false

-- the mathematical result of such an instruction
abbrev pub exact_value : Op → ℕ → ℤ → ℤ → ℤ → ℤ
exact_value Add n a b c = a +ℤ b
exact_value Adc n a b c = a +ℤ b +ℤ c
exact_value Sub n a b c = a -ℤ b
exact_value Sbb n a b c = a -ℤ b -ℤ c
exact_value Mul n a b c = a *ℤ b
exact_value Shl n a b c = a *ℤ pos (2 ^ n)
exact_value _ n a b c = a

-- the condition holds at the operands a, b and c, or there is none
abbrev pub is_exact_at : Op → Ty → ℕ → ℤ → ℤ → ℤ → Bool
is_exact_at op T n a b c = not (has_condition op) || is_in_type T (exact_value op n a b c)

-- the same at a list of operands
abbrev pub is_exact : Op → Ty → ℕ → List ℤ → Bool
is_exact op T n operands = is_exact_at op T n (nth operands 0) (nth operands 1) (nth operands 2)
