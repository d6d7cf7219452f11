-- What a program that is read has: its names are proper, its lines have their shape, and its names are numbered.
use Rattle.std.proofs.Common.{◌≡◌, ℕ, List, ◌∷◌, length, true, false, refl, subst}
use Rattle.std.specs.Prelude.{Some, Ok}
use Rattle.std.specs.List.{list_all}
use Rattle.tcl_lang.specs.Names.{all_occurrences}
use Rattle.tcl_lang.specs.Shape.{is_line, is_numbered, AreDistinct}
use Rattle.tcl_lang.specs.Program.{ReadProgram}
use Rattle.tcl_text.specs.declared.token.Raw.{Raw}
use Rattle.tcl_text.specs.declared.token.Token.{Token}
use Rattle.tcl_text.specs.declared.token.Statement.{Statement}
use Rattle.tcl_text.specs.declared.token.Statement.TheVariants.{Program, End}
use Rattle.tcl_text.specs.Tokens.{raws_of}
use Rattle.tcl_text.specs.Scan.{nests_too_deep, has_too_many_operators, is_low_statement}
use Rattle.tcl_text.specs.Statements as grammar
use Rattle.tcl_text.specs.Verdict as verdict
use Rattle.tcl_text.specs.Reading as reading
use Rattle.tcl_text.specs.Reading.{Progress, start, skipped, continued, Reads}
use Rattle.tcl_text.proofs.NameWords.{is_proper, is_worded, Worded, raws_worded, names_proper}
use Rattle.tcl_text.proofs.ReadShapes.{Kept, kept_start, kept_skipped, kept_continued}

-- what a verdict without a fault says
pub record Good (ts : List Token) (s : Statement) : Type 0 where
  pub shallow : nests_too_deep 0 ts ≡ false
  pub few : has_too_many_operators ts ≡ false
  pub is : grammar.IsStatement ts s
  pub low : is_low_statement s ≡ true

pub good_of : {ts : List Token} {s : Statement} → verdict.Judged ts (Ok s) → Good ts s
good_of (verdict.good d m s h) = record { shallow = d; few = m; is = s; low = h }

pub record IsReadProgram (p : ReadProgram) : Type 0 where
  pub distinct : AreDistinct p.program.names
  pub proper : list_all is_proper p.program.names ≡ true
  pub numbered : is_numbered (length p.program.names) 0 (all_occurrences p.program.lines) ≡ true
  pub shapes : list_all is_line p.program.lines ≡ true

line_worded : (line : List ℕ) (raws : List Raw) → raws_of line ≡ Some raws → list_all is_worded raws ≡ true
line_worded line raws e = subst Worded e (raws_worded 0 line)

reads_on : {s : Progress} {lines : List (List ℕ)} {p : ReadProgram} → reading.ReadsOn s lines (Ok p) → Kept s → list_all is_proper s.names ≡ true →
    IsReadProgram p
reads_on (reading.ended e) k h = record { distinct = k.distinct; proper = h; numbered = k.numbered; shapes = k.shapes }
reads_on {s = s} (reading.blank e r) k h = reads_on r (kept_skipped s k) h
reads_on {s = s} (reading.placed {line = line} {raw = raw} {raws = raws} {l = End} e j f r) k h =
    reads_on r (kept_continued s line (raw ∷ raws) End k e j f) (names_proper s.names (raw ∷ raws) (line_worded line (raw ∷ raws) e) h)
reads_on {s = s} (reading.placed {line = line} {raw = raw} {raws = raws} {l = Program l} e j f r) k h =
    reads_on r (kept_continued s line (raw ∷ raws) (Program l) k e j f) (names_proper s.names (raw ∷ raws) (line_worded line (raw ∷ raws) e) h)

pub read_program : (bytes : List ℕ) (p : ReadProgram) → Reads bytes p → IsReadProgram p
read_program bytes p r = reads_on r kept_start refl
