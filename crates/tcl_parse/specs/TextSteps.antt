-- What one line of a text does to what was read before it.
use Rattle.std.specs.Prelude.{◌≡◌, ℕ, true, false, List, [], ◌∷◌, Some, None, Ok, Err}
use Rattle.tcl_text.specs.declared.fault.LineFault.{LineFault}
use Rattle.tcl_text.specs.declared.fault.LineFault.TheVariants as line_fault
use Rattle.tcl_text.specs.declared.fault.TextFault.{TextFault}
use Rattle.tcl_text.specs.declared.fault.TextFault.TheVariants as text_fault
use Rattle.tcl_text.specs.declared.token.Raw.{Raw}
use Rattle.tcl_text.specs.declared.token.Statement.{Statement}
use Rattle.tcl_text.specs.Tokens.{raws_of}
use Rattle.tcl_text.specs.Numbering.{tokens_of, names_after}
use Rattle.tcl_text.specs.Verdict.{Judged}
use Rattle.tcl_text.specs.Reading.{Progress, skipped, continued, may_follow}

-- the line is read: it has no tokens, or is a statement in its place
pub data Steps : Progress → List ℕ → Progress → Type 0 where
  blank : {s : Progress} {line : List ℕ} → raws_of line ≡ Some [] → Steps s line (skipped s)
  placed : {s : Progress} {line : List ℕ} {raw : Raw} {raws : List Raw} {l : Statement} →
      raws_of line ≡ Some (raw ∷ raws) → Judged (tokens_of s.names (raw ∷ raws)) (Ok l) → may_follow s.stage l ≡ true →
      Steps s line (continued s (names_after s.names (raw ∷ raws)) l)

-- the line is refused
pub data Stops : Progress → List ℕ → TextFault → Type 0 where
  not_allowed : {s : Progress} {line : List ℕ} → raws_of line ≡ None → Stops s line (text_fault.Line s.number line_fault.Text)
  faulty : {s : Progress} {line : List ℕ} {raw : Raw} {raws : List Raw} {f : LineFault} →
      raws_of line ≡ Some (raw ∷ raws) → Judged (tokens_of s.names (raw ∷ raws)) (Err f) →
      Stops s line (text_fault.Line s.number f)
  misplaced : {s : Progress} {line : List ℕ} {raw : Raw} {raws : List Raw} {l : Statement} →
      raws_of line ≡ Some (raw ∷ raws) → Judged (tokens_of s.names (raw ∷ raws)) (Ok l) → may_follow s.stage l ≡ false →
      Stops s line (text_fault.Shape s.number)
