-- What a refusal says of the program that was read.
use Rattle.std.specs.Prelude.{◌≡◌, ℕ, length, slice_get, Some}
use Rattle.tcl_lang.specs.declared.reason.Reason.{Reason}
use Rattle.tcl_lang.specs.Program.{ReadProgram}
use Rattle.tcl_lang.specs.Typing.{IsWellTyped, IsFirstIllTyped}
use Rattle.tcl_types.specs.declared.fault.TypeFault.{TypeFault}
use Rattle.tcl_types.specs.declared.fault.TypeFault.TheVariants.{Ill, Memory}

-- no line of the program is ill-typed
abbrev pub IsTyped : ReadProgram → Type 0
IsTyped read = IsWellTyped (length read.program.names) read.program.lines

-- the line with number n in the text is the first that is ill-typed, for this reason
pub record IsIll (read : ReadProgram) (n : ℕ) (reason : Reason) : Type 0 where
  pub place : ℕ
  pub first : IsFirstIllTyped (length read.program.names) read.program.lines place reason
  pub number : slice_get read.places place ≡ Some n

-- what a refusal says
abbrev pub Says : ReadProgram → TypeFault → Type 0
Says read (Ill n reason) = IsIll read n reason
Says read Memory = Unit {0}

-- the refusal is this one, unless memory has run out
abbrev pub Names : TypeFault → ℕ → Reason → Type 0
Names (Ill m r) n reason = (m ≡ n) × (r ≡ reason)
Names Memory n reason = Unit {0}
