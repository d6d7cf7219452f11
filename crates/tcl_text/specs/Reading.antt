-- What a text reads as, or its first faulty line: line by line, with the names so far, each line in its place.
use Rattle.std.specs.Prelude.{◌≡◌, ℕ, ◌+◌, nat_lt, nat_le, Bool, true, false, ◌&&◌, List, [], ◌∷◌, ◌++◌, Some, None, Result, Ok, Err}
use Rattle.tcl_lang.specs.declared.pred.Line.{Line}
use Rattle.tcl_lang.specs.Shape.{stage_of}
use Rattle.tcl_lang.specs.Program.{ReadProgram}
use Rattle.tcl_text.specs.declared.fault.LineFault.{LineFault}
use Rattle.tcl_text.specs.declared.fault.LineFault.TheVariants as line_fault
use Rattle.tcl_text.specs.declared.fault.TextFault.{TextFault}
use Rattle.tcl_text.specs.declared.fault.TextFault.TheVariants as text_fault
use Rattle.tcl_text.specs.declared.token.Raw.{Raw}
use Rattle.tcl_text.specs.declared.token.Statement.{Statement}
use Rattle.tcl_text.specs.declared.token.Statement.TheVariants.{Program, End}
use Rattle.tcl_text.specs.Lines.{lines_of}
use Rattle.tcl_text.specs.Tokens.{raws_of}
use Rattle.tcl_text.specs.Numbering.{tokens_of, names_after}
use Rattle.tcl_text.specs.Verdict.{Judged}

-- the part of the text in which a statement stands; `end` is the last
abbrev pub part_of : Statement → ℕ
part_of (Program l) = stage_of l
part_of End = 4

-- a statement may stand behind one of this part: no part comes back, and nothing stands behind `end`
abbrev pub may_follow : ℕ → Statement → Bool
may_follow stage s = nat_lt stage 4 && nat_le stage (part_of s)

-- what was read before a line: its number, the part of the text, the names, the lines of the program, and the number in
-- the text of each
pub record Progress : Type 0 where
  pub number : ℕ
  pub stage : ℕ
  pub names : List (List ℕ)
  pub lines : List Line
  pub places : List ℕ

abbrev pub start : Progress
start = record { number = 1; stage = 0; names = []; lines = []; places = [] }

-- behind a line without tokens
abbrev pub skipped : Progress → Progress
skipped s = record s { number = s.number + 1 }

-- behind a statement
abbrev pub continued : Progress → List (List ℕ) → Statement → Progress
continued s names End = record { number = s.number + 1; stage = 4; names = names; lines = s.lines; places = s.places }
continued s names (Program l) =
    record {
      number = s.number + 1;
      stage = stage_of l;
      names = names;
      lines = s.lines ++ l ∷ [];
      places = s.places ++ s.number ∷ [];
    }

-- the program that was read
abbrev pub program_of : Progress → ReadProgram
program_of s = record { program = record { names = s.names; lines = s.lines }; places = s.places }

-- the outcome of the lines of a text
pub data ReadsOn : Progress → List (List ℕ) → Result ReadProgram TextFault → Type 0 where
  ended : {s : Progress} → s.stage ≡ 4 → ReadsOn s [] (Ok (program_of s))
  not_ended : {s : Progress} → nat_lt s.stage 4 ≡ true → ReadsOn s [] (Err (text_fault.Shape s.number))
  blank : {s : Progress} {line : List ℕ} {lines : List (List ℕ)} {outcome : Result ReadProgram TextFault} →
      raws_of line ≡ Some [] → ReadsOn (skipped s) lines outcome → ReadsOn s (line ∷ lines) outcome
  not_allowed : {s : Progress} {line : List ℕ} {lines : List (List ℕ)} →
      raws_of line ≡ None → ReadsOn s (line ∷ lines) (Err (text_fault.Line s.number line_fault.Text))
  faulty : {s : Progress} {line : List ℕ} {lines : List (List ℕ)} {raw : Raw} {raws : List Raw} {f : LineFault} →
      raws_of line ≡ Some (raw ∷ raws) → Judged (tokens_of s.names (raw ∷ raws)) (Err f) →
      ReadsOn s (line ∷ lines) (Err (text_fault.Line s.number f))
  misplaced : {s : Progress} {line : List ℕ} {lines : List (List ℕ)} {raw : Raw} {raws : List Raw} {l : Statement} →
      raws_of line ≡ Some (raw ∷ raws) → Judged (tokens_of s.names (raw ∷ raws)) (Ok l) → may_follow s.stage l ≡ false →
      ReadsOn s (line ∷ lines) (Err (text_fault.Shape s.number))
  placed : {s : Progress} {line : List ℕ} {lines : List (List ℕ)} {raw : Raw} {raws : List Raw} {l : Statement}
      {outcome : Result ReadProgram TextFault} →
      raws_of line ≡ Some (raw ∷ raws) → Judged (tokens_of s.names (raw ∷ raws)) (Ok l) → may_follow s.stage l ≡ true →
      ReadsOn (continued s (names_after s.names (raw ∷ raws)) l) lines outcome → ReadsOn s (line ∷ lines) outcome

-- the text is that of a program
abbrev pub Reads : List ℕ → ReadProgram → Type 0
Reads bytes p = ReadsOn start (lines_of bytes) (Ok p)

-- the first faulty line of the text, with its fault
abbrev pub FirstFault : List ℕ → TextFault → Type 0
FirstFault bytes f = ReadsOn start (lines_of bytes) (Err f)
