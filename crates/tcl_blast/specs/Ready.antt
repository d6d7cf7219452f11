-- What the gates of a line are made from: literals within the gates, and as many of each variable that the line reads as its
-- type has bits.
use Rattle.std.specs.Prelude.{◌≡◌, ℕ, List, length, slice_get}
use Rattle.tcl_lang.specs.declared.instr.Atom.{Atom}
use Rattle.tcl_lang.specs.Program.{VersionedProgram}
use Rattle.tcl_words.specs.Ranges.{AllWithin}
use Rattle.tcl_words.specs.Steps.{atoms_of}
use Rattle.tcl_words.specs.Stores.{HaveWidths}
use Rattle.tcl_blast.specs.declared.blasted.Blasted.{Blasted}

-- before the instruction at a place
pub record CanUse (p : VersionedProgram) (s : Blasted) (place : ℕ) : Type 0 where
  pub words : length s.words ≡ length p.variables
  pub within : AllWithin (length s.gates) s.words
  pub widths : HaveWidths s.words p.variables (atoms_of (slice_get p.lines place))

-- before a hypothesis or a claim with these operands
pub record CanState (p : VersionedProgram) (s : Blasted) (atoms : List Atom) : Type 0 where
  pub within : AllWithin (length s.gates) s.words
  pub widths : HaveWidths s.words p.variables atoms
