-- What is answered of a text is right: a program, or the refusal for its first fault or its first exceeded limit.
use Rattle.std.proofs.Common.{◌≡◌, ℕ, Bool, true, false, List, Result, Ok, Err, inl, inr, refl, sym, ap, subst, ◌∙◌}
use Rattle.std.specs.Prelude.{◌≢◌, nat_lt, if◌then◌else◌, Option, Some, None, IfOk, IfErr, MatchResult}
use Rattle.std.proofs.lemmas.Bool.{lt-ltb, le-ltb, ltb-true, ltb-false}
use Rattle.tcl_lang.specs.declared.pred.Line.{Line}
use Rattle.tcl_lang.specs.Goal.{goal_count}
use Rattle.tcl_lang.specs.Limit.{KeepsLimits, instruction_count, definition_count}
use Rattle.tcl_lang.specs.Program.{ReadProgram}
use Rattle.tcl_text.specs.declared.fault.Limit.{Limit}
use Rattle.tcl_text.specs.declared.fault.Limit.TheVariants.{Nesting, Operators, Exponent, Instructions, Variables, Goals}
use Rattle.tcl_text.specs.declared.fault.LineFault.{LineFault}
use Rattle.tcl_text.specs.declared.fault.LineFault.TheVariants as line_fault
use Rattle.tcl_text.specs.declared.fault.TextFault.{TextFault}
use Rattle.tcl_text.specs.declared.fault.TextFault.TheVariants as text_fault
use Rattle.tcl_text.specs.declared.token.Token.{Token}
use Rattle.tcl_text.specs.Verdict as verdict
use Rattle.tcl_text.specs.Reading as reading
use Rattle.tcl_text.specs.Reading.{Reads, FirstFault}
use Rattle.tcl_text.proofs.OneOutcome.{one_outcome, ok_program, err_fault, apart}
use Rattle.tcl_parse.specs.declared.fault.ParseFault.{ParseFault}
use Rattle.tcl_parse.specs.declared.fault.ParseFault.TheVariants as parse_fault
use Rattle.tcl_parse.specs.TextLimits.{exceeded_limit, IsFirstExceeded}
use Rattle.tcl_parse.specs.TextRefusals.{IsTooLarge, Exceeds, Says, IsOrMemory, IsAnswer, refusal_of}

-- the limits of a program, by their tests
abbrev first_of : Bool → Bool → Bool → Option Limit
first_of a b c = if a then Some Instructions else (if b then Some Variables else (if c then Some Goals else None))

within : (lines : List Line) (a b c : Bool) → nat_lt 4096 (instruction_count lines) ≡ a → nat_lt 8192 (definition_count lines) ≡ b →
    nat_lt 4096 (goal_count lines) ≡ c → first_of a b c ≡ None → KeepsLimits lines
within lines true b c p q r e = absurd cc
within lines false true c p q r e = absurd cc
within lines false false true p q r e = absurd cc
within lines false false false p q r e = record { instructions = ltb-false _ _ p; variables = ltb-false _ _ q; goals = ltb-false _ _ r }

keeps : (lines : List Line) → exceeded_limit lines ≡ None → KeepsLimits lines
keeps lines e = within lines _ _ _ refl refl refl e

exceeded : (lines : List Line) (limit : Limit) (a b c : Bool) → nat_lt 4096 (instruction_count lines) ≡ a → nat_lt 8192 (definition_count lines) ≡ b →
    nat_lt 4096 (goal_count lines) ≡ c → first_of a b c ≡ Some limit → IsFirstExceeded lines limit
exceeded lines limit true b c p q r e = let s : Instructions ≡ limit = cc in subst (IsFirstExceeded lines) s (ltb-true _ _ p)
exceeded lines limit false true c p q r e = let s : Variables ≡ limit = cc in subst (IsFirstExceeded lines) s (ltb-false _ _ p, ltb-true _ _ q)
exceeded lines limit false false true p q r e =
    let s : Goals ≡ limit = cc in subst (IsFirstExceeded lines) s (ltb-false _ _ p, ltb-false _ _ q, ltb-true _ _ r)
exceeded lines limit false false false p q r e = absurd cc

first_exceeded : (lines : List Line) (limit : Limit) → exceeded_limit lines ≡ Some limit → IsFirstExceeded lines limit
first_exceeded lines limit e = exceeded lines limit _ _ _ refl refl refl e

tests : (lines : List Line) (a b c : Bool) → nat_lt 4096 (instruction_count lines) ≡ a → nat_lt 8192 (definition_count lines) ≡ b →
    nat_lt 4096 (goal_count lines) ≡ c → exceeded_limit lines ≡ first_of a b c
tests lines a b c p q r =
    ap (λ x. first_of x (nat_lt 8192 (definition_count lines)) (nat_lt 4096 (goal_count lines))) p
    ∙ (ap (λ x. first_of a x (nat_lt 4096 (goal_count lines))) q ∙ ap (first_of a b) r)

is_exceeded : (lines : List Line) (limit : Limit) → IsFirstExceeded lines limit → exceeded_limit lines ≡ Some limit
is_exceeded lines Instructions h = tests lines true _ _ (lt-ltb _ _ h) refl refl
is_exceeded lines Variables h = tests lines false true _ (le-ltb _ _ h.0) (lt-ltb _ _ h.1) refl
is_exceeded lines Goals h = tests lines false false true (le-ltb _ _ h.0) (le-ltb _ _ h.1) (lt-ltb _ _ h.2)
is_exceeded lines Nesting h = absurd h
is_exceeded lines Operators h = absurd h
is_exceeded lines Exponent h = absurd h

none_exceeded : (lines : List Line) → KeepsLimits lines → exceeded_limit lines ≡ None
none_exceeded lines k = tests lines false false false (le-ltb _ _ k.instructions) (le-ltb _ _ k.variables) (le-ltb _ _ k.goals)

some_none : {A : Type 0} (o : Option A) (x : A) → o ≡ Some x → o ≡ None → ⊥
some_none o x e f = cc

-- a line exceeds no limit of programs
abbrev IsLineLimit : Limit → Type 0
IsLineLimit Instructions = ⊥
IsLineLimit Variables = ⊥
IsLineLimit Goals = ⊥
IsLineLimit _ = Unit {0}

abbrev IsLineFault : LineFault → Type 0
IsLineFault line_fault.Text = Unit {0}
IsLineFault (line_fault.Limit limit) = IsLineLimit limit

abbrev IsOutcome : Result ReadProgram TextFault → Type 0
IsOutcome (Err (text_fault.Line n f)) = IsLineFault f
IsOutcome _ = Unit {0}

line_verdict : {ts : List Token} {f : LineFault} → verdict.Judged ts (Err f) → IsLineFault f
line_verdict (verdict.too_deep e) = tt
line_verdict (verdict.too_many e d) = tt
line_verdict (verdict.no_line e d n) = tt
line_verdict (verdict.too_high e d s l) = tt

outcome_is : {s : reading.Progress} {lines : List (List ℕ)} {o : Result ReadProgram TextFault} → reading.ReadsOn s lines o → IsOutcome o
outcome_is (reading.ended e) = tt
outcome_is (reading.not_ended e) = tt
outcome_is (reading.blank e r) = outcome_is r
outcome_is (reading.not_allowed e) = tt
outcome_is (reading.faulty e j) = line_verdict j
outcome_is (reading.misplaced e j m) = tt
outcome_is (reading.placed e j m r) = outcome_is r

-- the refusal of the first fault says what it should
says : (bytes : List ℕ) (f : TextFault) → FirstFault bytes f → Says bytes (refusal_of f)
says bytes (text_fault.Shape n) h = h
says bytes (text_fault.Line n line_fault.Text) h = h
says bytes (text_fault.Line n (line_fault.Limit Nesting)) h = (n, h)
says bytes (text_fault.Line n (line_fault.Limit Operators)) h = (n, h)
says bytes (text_fault.Line n (line_fault.Limit Exponent)) h = (n, h)
says bytes (text_fault.Line n (line_fault.Limit Instructions)) h = absurd (outcome_is h)
says bytes (text_fault.Line n (line_fault.Limit Variables)) h = absurd (outcome_is h)
says bytes (text_fault.Line n (line_fault.Limit Goals)) h = absurd (outcome_is h)

exceeds : (bytes : List ℕ) (limit : Limit) → IsTooLarge bytes limit → Exceeds bytes limit
exceeds bytes Nesting t = absurd t.first
exceeds bytes Operators t = absurd t.first
exceeds bytes Exponent t = absurd t.first
exceeds bytes Instructions t = t
exceeds bytes Variables t = t
exceeds bytes Goals t = t

-- whence a refusal comes
data Source (bytes : List ℕ) (f : ParseFault) : Type 0 where
  line : (g : TextFault) → FirstFault bytes g → refusal_of g ≡ f → Source bytes f
  program : (limit : Limit) → IsTooLarge bytes limit → f ≡ parse_fault.Limit limit → Source bytes f
  memory : f ≡ parse_fault.Memory → Source bytes f

source : (bytes : List ℕ) (f : ParseFault) → Says bytes f → Source bytes f
source bytes (parse_fault.Text n) h = line (text_fault.Line n line_fault.Text) h refl
source bytes (parse_fault.Shape n) h = line (text_fault.Shape n) h refl
source bytes (parse_fault.Limit Nesting) h = line (text_fault.Line h.0 (line_fault.Limit Nesting)) h.1 refl
source bytes (parse_fault.Limit Operators) h = line (text_fault.Line h.0 (line_fault.Limit Operators)) h.1 refl
source bytes (parse_fault.Limit Exponent) h = line (text_fault.Line h.0 (line_fault.Limit Exponent)) h.1 refl
source bytes (parse_fault.Limit Instructions) h = program Instructions h refl
source bytes (parse_fault.Limit Variables) h = program Variables h refl
source bytes (parse_fault.Limit Goals) h = program Goals h refl
source bytes parse_fault.Memory h = memory refl

one_program : (bytes : List ℕ) (p q : ReadProgram) → Reads bytes p → Reads bytes q → p ≡ q
one_program bytes p q r s = ok_program (one_outcome r s)

one_fault : (bytes : List ℕ) (f g : TextFault) → FirstFault bytes f → FirstFault bytes g → f ≡ g
one_fault bytes f g r s = err_fault (one_outcome r s)

never_both : (bytes : List ℕ) (p : ReadProgram) (f : TextFault) → Reads bytes p → FirstFault bytes f → ⊥
never_both bytes p f r s = apart (one_outcome r s)

-- all that is promised of an answer
pub record Answers (bytes : List ℕ) (answer : Result ReadProgram ParseFault) : Type 0 where
  pub reads : IfOk answer (Reads bytes)
  pub limits : IfOk answer (λ p. KeepsLimits p.program.lines)
  pub fault : IfErr answer (Says bytes)
  pub accepts : (p : ReadProgram) → Reads bytes p → KeepsLimits p.program.lines → MatchResult answer (λ q. q ≡ p) (λ f. f ≡ parse_fault.Memory)
  pub refuses : (f : ParseFault) → f ≢ parse_fault.Memory → Says bytes f → MatchResult answer (λ q. ⊥) (λ a. IsOrMemory a f)

pub no_memory : (bytes : List ℕ) → Answers bytes (Err parse_fault.Memory)
no_memory bytes = record {
  reads = tt;
  limits = tt;
  fault = tt;
  accepts = λ p r k. refl;
  refuses = λ f n s. inr refl;
}

pub faulty_text : (bytes : List ℕ) (g : TextFault) → FirstFault bytes g → Answers bytes (Err (refusal_of g))
faulty_text bytes g h = record {
  reads = tt;
  limits = tt;
  fault = says bytes g h;
  accepts = λ p r k. absurd (never_both bytes p g r h);
  refuses = λ f n s. by f n (source bytes f s);
}
  where
    by : (f : ParseFault) → f ≢ parse_fault.Memory → Source bytes f → IsOrMemory (refusal_of g) f
    by f n (line i r e) = inl (ap refusal_of (one_fault bytes g i h r) ∙ e)
    by f n (program limit t e) = absurd (never_both bytes t.program g t.reads h)
    by f n (memory e) = absurd (n e)

large_program : (bytes : List ℕ) (p : ReadProgram) (limit : Limit) → Reads bytes p → exceeded_limit p.program.lines ≡ Some limit →
    Answers bytes (Err (parse_fault.Limit limit))
large_program bytes p limit r x = record {
  reads = tt;
  limits = tt;
  fault = exceeds bytes limit (record { program = p; reads = r; first = first_exceeded p.program.lines limit x });
  accepts = λ q s k.
      absurd (some_none (exceeded_limit p.program.lines) limit x
      (none_exceeded p.program.lines (subst (λ o. KeepsLimits o.program.lines) (one_program bytes q p s r) k)));
  refuses = λ f n s. by f n (source bytes f s);
}
  where
    by : (f : ParseFault) → f ≢ parse_fault.Memory → Source bytes f → IsOrMemory (parse_fault.Limit limit) f
    by f n (line i h e) = absurd (never_both bytes p i r h)
    by f n (program other t e) =
        let same = one_program bytes t.program p t.reads r in
        let y : exceeded_limit p.program.lines ≡ Some other =
        is_exceeded p.program.lines other (subst (λ o. IsFirstExceeded o.program.lines other) same t.first) in
        let z : limit ≡ other = cc in
        inl (ap (λ w. parse_fault.Limit w) z ∙ sym e)
    by f n (memory e) = absurd (n e)

small_program : (bytes : List ℕ) (p q : ReadProgram) → Reads bytes p → q ≡ p → exceeded_limit p.program.lines ≡ None → Answers bytes (Ok q)
small_program bytes p q r same x = record {
  reads = subst (Reads bytes) (sym same) r;
  limits = subst (λ o. KeepsLimits o.program.lines) (sym same) (keeps p.program.lines x);
  fault = tt;
  accepts = λ o s k. same ∙ one_program bytes p o r s;
  refuses = λ f n s. by f n (source bytes f s);
}
  where
    by : (f : ParseFault) → f ≢ parse_fault.Memory → Source bytes f → ⊥
    by f n (line i h e) = never_both bytes p i r h
    by f n (program other t e) =
        some_none (exceeded_limit p.program.lines) other
        (is_exceeded p.program.lines other (subst (λ o. IsFirstExceeded o.program.lines other) (one_program bytes t.program p t.reads r) t.first)) x
    by f n (memory e) = n e

-- a text that reads as a program
pub program_text : (bytes : List ℕ) (p : ReadProgram) (answer : Result ReadProgram ParseFault) → Reads bytes p →
    MatchResult answer (λ q. (q ≡ p) × (exceeded_limit p.program.lines ≡ None)) (IsAnswer (exceeded_limit p.program.lines)) →
    Answers bytes answer
program_text bytes p (Ok q) r h = small_program bytes p q r h.0 h.1
program_text bytes p (Err (parse_fault.Limit limit)) r h = large_program bytes p limit r h
program_text bytes p (Err parse_fault.Memory) r h = no_memory bytes
program_text bytes p (Err (parse_fault.Text n)) r h = absurd h
program_text bytes p (Err (parse_fault.Shape n)) r h = absurd h
