-- Programs as contracts see them: names by their bytes, and lines over the numbers of names.
use Rattle.std.specs.Prelude.{ℕ, List}
use Rattle.tcl_lang.specs.declared.pred.Line.{Line}
use Rattle.tcl_lang.specs.declared.variable.Variable.{Variable}

-- a program with names
pub record NamedProgram : Type 0 where
  pub names : List (List ℕ)
  pub lines : List Line

-- a program as it was read: each place has the number of its line in the text
pub record ReadProgram : Type 0 where
  pub program : NamedProgram
  pub places : List ℕ

-- a program in static single assignment form: each variable is one definition of a name
pub record VersionedProgram : Type 0 where
  pub variables : List Variable
  pub lines : List Line
