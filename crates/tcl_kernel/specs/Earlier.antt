-- What was shown before.
use Rattle.std.specs.Prelude.{List}
use Rattle.tcl_lang.specs.Program.{VersionedProgram}
use Rattle.tcl_goals.specs.declared.lemma.Numbered.{Numbered}
use Rattle.tcl_kernel.specs.declared.facts.NumberedFact.{NumberedFact}

-- lemmas and facts of a program, by their numbers
pub record Earlier : Type 0 where
  pub program : VersionedProgram
  pub lemmas : List Numbered
  pub facts : List NumberedFact
