-- What a refusal says of a text.
use Rattle.std.specs.Prelude.{◌≡◌, ◌⊎◌, ℕ, List, Option, Some}
use Rattle.tcl_lang.specs.Program.{ReadProgram}
use Rattle.tcl_text.specs.declared.fault.Limit.{Limit}
use Rattle.tcl_text.specs.declared.fault.Limit.TheVariants.{Nesting, Operators, Exponent}
use Rattle.tcl_text.specs.declared.fault.LineFault.TheVariants as line_fault
use Rattle.tcl_text.specs.declared.fault.TextFault.{TextFault}
use Rattle.tcl_text.specs.declared.fault.TextFault.TheVariants as text_fault
use Rattle.tcl_text.specs.Reading.{Reads, FirstFault}
use Rattle.tcl_parse.specs.declared.fault.ParseFault.{ParseFault}
use Rattle.tcl_parse.specs.declared.fault.ParseFault.TheVariants as parse_fault
use Rattle.tcl_parse.specs.TextLimits.{IsFirstExceeded}

-- the text reads as a program whose first exceeded limit this is
pub record IsTooLarge (bytes : List ℕ) (limit : Limit) : Type 0 where
  pub program : ReadProgram
  pub reads : Reads bytes program
  pub first : IsFirstExceeded program.program.lines limit

-- the first faulty line exceeds a limit of lines, or the whole program one of programs
abbrev pub Exceeds : List ℕ → Limit → Type 0
Exceeds bytes Nesting = (n : ℕ) × FirstFault bytes (text_fault.Line n (line_fault.Limit Nesting))
Exceeds bytes Operators = (n : ℕ) × FirstFault bytes (text_fault.Line n (line_fault.Limit Operators))
Exceeds bytes Exponent = (n : ℕ) × FirstFault bytes (text_fault.Line n (line_fault.Limit Exponent))
Exceeds bytes limit = IsTooLarge bytes limit

-- what a refusal says
abbrev pub Says : List ℕ → ParseFault → Type 0
Says bytes (parse_fault.Text n) = FirstFault bytes (text_fault.Line n line_fault.Text)
Says bytes (parse_fault.Shape n) = FirstFault bytes (text_fault.Shape n)
Says bytes (parse_fault.Limit limit) = Exceeds bytes limit
Says bytes parse_fault.Memory = Unit {0}

-- the refusal is this one, or memory has run out
abbrev pub IsOrMemory : ParseFault → ParseFault → Type 0
IsOrMemory answer fault = (answer ≡ fault) ⊎ (answer ≡ parse_fault.Memory)

-- the refusal for the first faulty line
abbrev pub refusal_of : TextFault → ParseFault
refusal_of (text_fault.Line n line_fault.Text) = parse_fault.Text n
refusal_of (text_fault.Line n (line_fault.Limit limit)) = parse_fault.Limit limit
refusal_of (text_fault.Shape n) = parse_fault.Shape n

-- the refusal of a program that was read, by its first exceeded limit
abbrev pub IsAnswer : Option Limit → ParseFault → Type 0
IsAnswer exceeded (parse_fault.Limit limit) = exceeded ≡ Some limit
IsAnswer exceeded parse_fault.Memory = Unit {0}
IsAnswer exceeded _ = ⊥
