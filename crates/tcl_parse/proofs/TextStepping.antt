-- What one line does to what was read, said of its tokens.
use Rattle.std.proofs.Common.{◌≡◌, ◌≤◌, ℕ, true, false, List, [], ◌∷◌, length, Result, Ok, Err, refl, sym, ap, subst, ◌∙◌, arith}
use Rattle.std.proofs.lemmas.Bool.{ltb-false}
use Rattle.std.specs.Prelude.{Some, nat_lt, IfOk, MatchResult}
use Rattle.tcl_lang.specs.Program.{ReadProgram}
use Rattle.tcl_text.specs.declared.fault.LineFault.{LineFault}
use Rattle.tcl_text.specs.declared.fault.TextFault.{TextFault}
use Rattle.tcl_text.specs.declared.fault.TextFault.TheVariants as text_fault
use Rattle.tcl_text.specs.declared.token.Raw.{Raw}
use Rattle.tcl_text.specs.declared.token.Token.{Token}
use Rattle.tcl_text.specs.declared.token.Statement.{Statement}
use Rattle.tcl_text.specs.declared.token.Statement.TheVariants.{Program, End}
use Rattle.tcl_text.specs.Lines.{lines_of}
use Rattle.tcl_text.specs.Tokens.{raws_of}
use Rattle.tcl_text.specs.Numbering.{tokens_of, names_after}
use Rattle.tcl_text.specs.Verdict.{Judged}
use Rattle.tcl_text.specs.Reading as text
use Rattle.tcl_text.specs.Reading.{Progress, skipped, continued, may_follow, ReadsOn}
use Rattle.tcl_text.proofs.ReadShapes.{Kept, kept_skipped, kept_continued}
use Rattle.tcl_parse.specs.TextSteps as steps
use Rattle.tcl_parse.specs.TextSteps.{Steps, Stops}

-- a verdict with other words
pub mapped : {E P P' : Type 0} {Q Q' : TextFault → Type 0} (r : Result (Result (Unit {0}) TextFault) E) →
    IfOk r (λ v. MatchResult v (λ _. P) Q) → (P → P') → ((f : TextFault) → Q f → Q' f) → IfOk r (λ v. MatchResult v (λ _. P') Q')
mapped (Ok (Ok u)) h p q = p h
mapped (Ok (Err f)) h p q = q f h
mapped (Err e) h p q = h

pub no_tokens : (s : Progress) (line : List ℕ) (raws : List Raw) → Some raws ≡ raws_of line → length raws ≡ 0 → Steps s line (skipped s)
no_tokens s line [] e h = steps.blank (sym e)
no_tokens s line (raw ∷ raws) e h = absurd (omega (arith, h))

pub faulty_line : (s : Progress) (line : List ℕ) (raws : List Raw) (tokens : List Token) (f : LineFault) →
    Some raws ≡ raws_of line → (length raws ≡ 0 → ⊥) → tokens ≡ tokens_of s.names raws → Judged tokens (Err f) →
    Stops s line (text_fault.Line s.number f)
faulty_line s line [] tokens f e some t j = absurd (some refl)
faulty_line s line (raw ∷ raws) tokens f e some t j = steps.faulty (sym e) (subst (λ ts. Judged ts (Err f)) t j)

pub misplaced_line : (s : Progress) (line : List ℕ) (raws : List Raw) (tokens : List Token) (l : Statement) (f : TextFault) →
    Some raws ≡ raws_of line → (length raws ≡ 0 → ⊥) → tokens ≡ tokens_of s.names raws → Judged tokens (Ok l) →
    may_follow s.stage l ≡ false → f ≡ text_fault.Shape s.number → Stops s line f
misplaced_line s line [] tokens l f e some t j m g = absurd (some refl)
misplaced_line s line (raw ∷ raws) tokens l f e some t j m g =
    subst (Stops s line) (sym g) (steps.misplaced (sym e) (subst (λ ts. Judged ts (Ok l)) t j) m)

same : (s : Progress) (names : List (List ℕ)) (l : Statement) → continued (record s { names = names }) names l ≡ continued s names l
same s names End = refl
same s names (Program l) = refl

pub placed_line : (s next : Progress) (line : List ℕ) (raws : List Raw) (tokens : List Token) (names : List (List ℕ)) (l : Statement) →
    Some raws ≡ raws_of line → (length raws ≡ 0 → ⊥) → tokens ≡ tokens_of s.names raws → names ≡ names_after s.names raws →
    Judged tokens (Ok l) → may_follow s.stage l ≡ true → next ≡ continued (record s { names = names }) names l → Steps s line next
placed_line s next line [] tokens names l e some t a j m g = absurd (some refl)
placed_line s next line (raw ∷ raws) tokens names l e some t a j m g =
    subst (Steps s line) (sym (g ∙ (same s names l ∙ ap (λ n. continued s n l) a)))
    (steps.placed (sym e) (subst (λ ts. Judged ts (Ok l)) t j) m)

-- a line that is read goes before what the further lines read as
pub forth : {s next : Progress} {line : List ℕ} {lines : List (List ℕ)} {outcome : Result ReadProgram TextFault} →
    Steps s line next → ReadsOn next lines outcome → ReadsOn s (line ∷ lines) outcome
forth (steps.blank e) r = text.blank e r
forth (steps.placed e j m) r = text.placed e j m r

-- a line that is refused is the first faulty one
pub refused : {s : Progress} {line : List ℕ} {lines : List (List ℕ)} {f : TextFault} →
    Stops s line f → ReadsOn s (line ∷ lines) (Err f)
refused (steps.not_allowed e) = text.not_allowed e
refused (steps.faulty e j) = text.faulty e j
refused (steps.misplaced e j m) = text.misplaced e j m

-- what the rest reads as from here is what the text reads as
pub record Goes (bytes : List ℕ) (s : Progress) (rest : List ℕ) : Type 0 where
  pub forth : (outcome : Result ReadProgram TextFault) → ReadsOn s (lines_of rest) outcome → ReadsOn text.start (lines_of bytes) outcome

pub begins : (bytes : List ℕ) (s : Progress) → s ≡ text.start → Goes bytes s bytes
begins bytes s e = record { forth = λ outcome r. subst (λ x. ReadsOn x (lines_of bytes) outcome) e r }

pub goes_on : (bytes rest line behind : List ℕ) (s next : Progress) → Goes bytes s rest → lines_of rest ≡ line ∷ lines_of behind →
    Steps s line next → Goes bytes next behind
goes_on bytes rest line behind s next g e h = record {
  forth = λ outcome r. g.forth outcome (subst (λ ls. ReadsOn s ls outcome) (sym e) (forth h r));
}

pub goes_nowhere : (bytes rest line behind : List ℕ) (s : Progress) (f : TextFault) → Goes bytes s rest → lines_of rest ≡ line ∷ lines_of behind →
    Stops s line f → text.FirstFault bytes f
goes_nowhere bytes rest line behind s f g e h = g.forth (Err f) (subst (λ ls. ReadsOn s ls (Err f)) (sym e) (refused h))

pub goes_to_end : (bytes rest : List ℕ) (s : Progress) → Goes bytes s rest → lines_of rest ≡ [] → s.stage ≡ 4 → text.Reads bytes (text.program_of s)
goes_to_end bytes rest s g e h = g.forth (Ok (text.program_of s)) (subst (λ ls. ReadsOn s ls (Ok (text.program_of s))) (sym e) (text.ended h))

pub goes_on_for_ever : (bytes rest : List ℕ) (s : Progress) → Goes bytes s rest → lines_of rest ≡ [] → nat_lt s.stage 4 ≡ true →
    text.FirstFault bytes (text_fault.Shape s.number)
goes_on_for_ever bytes rest s g e h =
    g.forth (Err (text_fault.Shape s.number)) (subst (λ ls. ReadsOn s ls (Err (text_fault.Shape s.number))) (sym e) (text.not_ended h))

-- a step keeps the shape
pub keeps : {s next : Progress} {line : List ℕ} → Steps s line next → Kept s → Kept next
keeps {s = s} (steps.blank e) k = kept_skipped s k
keeps {s = s} {line = line} (steps.placed {raw = raw} {raws = raws} {l = l} e j m) k = kept_continued s line (raw ∷ raws) l k e j m

pub at_end : (n : ℕ) → n ≤ 4 → nat_lt n 4 ≡ false → n ≡ 4
at_end n h e = let p : 4 ≤ n = ltb-false n 4 e in omega (arith, h, p)
