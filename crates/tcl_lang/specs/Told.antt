-- What a name that is told does to those who wait for one.
use Rattle.std.specs.Prelude.{ℕ, zero, suc, ◌==◌, ◌||◌, Option, Some, None}
use Rattle.tcl_lang.specs.declared.instr.Atom.{Atom}
use Rattle.tcl_lang.specs.declared.instr.Atom.TheVariants.{Var, Lit}
use Rattle.tcl_lang.specs.declared.names.Search.{Search}
use Rattle.tcl_lang.specs.declared.names.Count.{Count}

-- who is told the name of an operand, if it is one
abbrev pub after_operand : {V : Type 0} → (V → ℕ → V) → V → Atom → V
after_operand after v (Var name) = after v name
after_operand after v (Lit T n) = v

-- who looks for a name has found it, if this is the name or it was found before
abbrev pub looked : Search → ℕ → Search
looked s name = record { name = s.name; found = s.found || s.name == name }

-- who waits for the name after so many further ones; a name that was found is kept
abbrev pub count_step : ℕ → Option ℕ → ℕ → Count
count_step left (Some found) name = record { left = left; found = Some found }
count_step zero None name = record { left = 0; found = Some name }
count_step (suc left) None name = record { left = left; found = None }

abbrev pub counted_down : Count → ℕ → Count
counted_down c name = count_step c.left c.found name
