-- Texts that read as a program. The limits of one line are part of reading; those of a whole program speak of its lines alone.
use Rattle.std.specs.Prelude.{ℕ, List}
use Rattle.tcl_lang.specs.Program.{NamedProgram}
use Rattle.tcl_text.specs.Reading.{Reads}

-- the text reads as the program, whatever the numbers of its lines are
pub record ReadsAs (bytes : List ℕ) (p : NamedProgram) : Type 0 where
  pub places : List ℕ
  pub reads : Reads bytes (record { program = p; places = places })

-- some text reads as the program
pub record IsReadable (p : NamedProgram) : Type 0 where
  pub bytes : List ℕ
  pub reads : ReadsAs bytes p
