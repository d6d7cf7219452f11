-- What the status of a report says.
use Rattle.std.proofs.Common.{◌≡◌, ◌<◌, inl, inr, ℕ, ℤ, true, List, length, refl, sym, subst, ◌∙◌, ap, arith}
use Rattle.tcl_lang.specs.declared.pred.Line.{Line}
use Rattle.tcl_lang.specs.Program.{ReadProgram, VersionedProgram}
use Rattle.tcl_lang.specs.Goal.{goal_count}
use Rattle.tcl_lang.specs.Correct.{IsCorrect, IsCounterexample}
use Rattle.tcl_lang.proofs.Correctness.{no_counterexample_correct}
use Rattle.tcl_goals.specs.declared.piece.Verdict.{Verdict}
use Rattle.tcl_goals.specs.declared.piece.Verdict.TheVariants as verdict
use Rattle.tcl_goals.proofs.GoalPlaces.{goal_number_below}
use Rattle.tcl_board.specs.declared.event.Event.{Event}
use Rattle.tcl_board.specs.State.{BoardState}
use Rattle.tcl_board.specs.Told.{Answer, Proved, Refuted, Unproved, Strayed, Open, answer_of, verdict_of}
use Rattle.tcl_kernel.specs.Causes.{IsTrueCause}
use Rattle.tcl_report.specs.ReportSays.{is_proved, VerdictSays, IsReport}
use Rattle.tcl_top.proofs.FormGoals.{form_goal_count}
use Rattle.tcl_top.specs.Answers.{Tells, IsBoardOf}
use Rattle.tcl_top.specs.Headline.{IsAnswered, ReadsCorrect, verdict_status}

-- a proved goal is refuted by no input
proved_tells : (names : ℕ) (lines : List Line) (g : ℕ) (a : Answer) → is_proved a ≡ true → Tells names lines g a → (input : List ℤ) → IsCounterexample names lines input g → ⊥
proved_tells names lines g Proved e t = t
proved_tells names lines g (Refuted input) e t = absurd (cc)
proved_tells names lines g (Unproved c) e t = absurd (cc)
proved_tells names lines g (Strayed place input) e t = absurd (cc)
proved_tells names lines g Open e t = absurd (cc)

status_zero : (v : Verdict) → verdict_status v ≡ 0 → v ≡ verdict.Verified
status_zero verdict.Verified e = refl
status_zero verdict.Refuted e = absurd (omega arith)
status_zero verdict.Unproved e = absurd (omega arith)

verified_correct : (p : ReadProgram) (events : List Event) (s : BoardState) (text : List ℕ) → IsBoardOf p events s → IsReport IsTrueCause p s text → verdict_of s ≡ verdict.Verified → IsCorrect (length p.program.names) p.program.lines
verified_correct p events s text worked report verified =
    no_counterexample_correct (length p.program.names) p.program.lines (λ input g c.
    let below : g < goal_count s.program.lines =
    subst (λ n. g < n) (sym (ap (λ (f : VersionedProgram). goal_count f.lines) report.form ∙ form_goal_count p.program))
    (subst (λ j. j < goal_count p.program.lines) c.at.number (goal_number_below p.program.lines c.place c.at.goal)) in
    let each = subst (VerdictSays s) verified report.verdict in
    proved_tells (length p.program.names) p.program.lines g (answer_of s g) (each g below) (worked.answers g below).tells input c)

-- status 0 of a whole text
pub answered_correct : (bytes : List ℕ) (status : ℕ) (text : List ℕ) (events : List Event) → IsAnswered bytes status text events → status ≡ 0 → ReadsCorrect bytes
answered_correct bytes status text events answered zero_is = elim answered [
  | inl r ↦ elim r.refusal [
    | inl a ↦ absurd (omega (arith, a.status_is, zero_is))
    | inr (inl a) ↦ absurd (omega (arith, a.status_is, zero_is))
    | inr (inr (inl a)) ↦ absurd (omega (arith, a.status_is, zero_is))
    | inr (inr (inr a)) ↦ absurd (omega (arith, a.status_is, zero_is))
  ]
  | inr r ↦ record {
    program = r.program;
    accepted = r.accepted;
    typed = r.typed;
    correct = verified_correct r.program events r.board text r.worked r.report (status_zero (verdict_of r.board) (sym r.status_is ∙ zero_is));
  }
]

-- the status of a whole text is never that of a write fault
verdict_known : (v : Verdict) → verdict_status v ≡ 6 → ⊥
verdict_known verdict.Verified e = absurd (omega (arith, e))
verdict_known verdict.Refuted e = absurd (omega (arith, e))
verdict_known verdict.Unproved e = absurd (omega (arith, e))

pub answered_known : (bytes : List ℕ) (status : ℕ) (text : List ℕ) (events : List Event) → IsAnswered bytes status text events → status ≡ 6 → ⊥
answered_known bytes status text events answered six = elim answered [
  | inl r ↦ elim r.refusal [
    | inl a ↦ omega (arith, a.status_is, six)
    | inr (inl a) ↦ omega (arith, a.status_is, six)
    | inr (inr (inl a)) ↦ omega (arith, a.status_is, six)
    | inr (inr (inr a)) ↦ omega (arith, a.status_is, six)
  ]
  | inr r ↦ verdict_known (verdict_of r.board) (sym r.status_is ∙ six)
]
