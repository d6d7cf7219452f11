-- What was read before a line, as the definitions see it.
use Rattle.std.specs.Prelude.{◌≡◌, ℕ, List, length}
use Rattle.tcl_lang.specs.Shape.{HasShape}
use Rattle.tcl_text.specs.Reading as text
use Rattle.tcl_parse.specs.declared.text.progress.Progress.{Progress}

abbrev pub progress_of : Progress → text.Progress
progress_of p = record { number = p.number; stage = p.stage; names = p.names; lines = p.lines; places = p.places }

-- the text reads as what was read, which is a program
pub record IsWhole (bytes : List ℕ) (p : Progress) : Type 0 where
  pub reads : text.Reads bytes (text.program_of (progress_of p))
  pub shape : HasShape p.names p.lines
  pub numbers : length p.places ≡ length p.lines
