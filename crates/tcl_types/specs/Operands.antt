-- What is asked of each name and each operand of a line.
use Rattle.std.specs.Prelude.{ℕ, Bool, false, is_none, List, Option}
use Rattle.tcl_lang.specs.declared.ty.Ty.{Ty}
use Rattle.tcl_lang.specs.declared.instr.Atom.{Atom}
use Rattle.tcl_lang.specs.declared.instr.Atom.TheVariants.{Var, Lit}
use Rattle.tcl_lang.specs.Typing.{type_at}

-- no line so far defines the name
abbrev pub is_undefined : List (Option Ty) → ℕ → Bool
is_undefined types name = is_none (type_at types name)

-- the operand is such a name
abbrev pub is_undefined_atom : List (Option Ty) → Atom → Bool
is_undefined_atom types (Var name) = is_undefined types name
is_undefined_atom types (Lit T n) = false
