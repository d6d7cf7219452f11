-- Instructions of one result that wrap what they make of words of one type, as operators of range terms do. No public clause
-- cites this module.
use Rattle.std.specs.Prelude.{ℤ, Bool, true, false}
use Rattle.tcl_lang.specs.declared.ty.Ty.{Ty}
use Rattle.tcl_lang.specs.declared.instr.Op.{Op}
use Rattle.tcl_lang.specs.declared.instr.Op.TheVariants.{Add, Sub, Mul, And, Or, Xor, Not}
use Rattle.tcl_lang.specs.declared.range.RngOp.TheVariants as range_ops
use Rattle.tcl_lang.specs.Range.{combined, flipped}

-- one of these instructions
abbrev pub is_plain : Op → Bool
is_plain Add = true
is_plain Sub = true
is_plain Mul = true
is_plain And = true
is_plain Or = true
is_plain Xor = true
is_plain Not = true
is_plain _ = false

-- what it makes of two words of a type, before it is wrapped
abbrev pub plain_value : Op → Ty → ℤ → ℤ → ℤ
plain_value Add T n m = combined range_ops.Add T n m
plain_value Sub T n m = combined range_ops.Sub T n m
plain_value Mul T n m = combined range_ops.Mul T n m
plain_value And T n m = combined range_ops.And T n m
plain_value Or T n m = combined range_ops.Or T n m
plain_value Xor T n m = combined range_ops.Xor T n m
plain_value Not T n m = flipped T n
plain_value _ T n m = n
