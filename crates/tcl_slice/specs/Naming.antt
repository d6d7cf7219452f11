-- Names behind which the name of an operand is put, if it is one. No public clause cites this module.
use Rattle.std.specs.Prelude.{ℕ, List, [], ◌∷◌, ◌++◌}
use Rattle.tcl_lang.specs.declared.instr.Atom.{Atom}
use Rattle.tcl_lang.specs.declared.instr.Atom.TheVariants.{Var, Lit}

abbrev pub with_operand : List ℕ → Atom → List ℕ
with_operand names (Var name) = names ++ name ∷ []
with_operand names (Lit T n) = names
