-- What the lines of a report on a finished board say.
use Rattle.std.specs.Prelude.{◌≡◌, ◌<◌, ℕ, ℤ, Bool, true, false, List, length}
use Rattle.std.specs.Bool.{⊤}
use Rattle.tcl_lang.specs.Program.{ReadProgram}
use Rattle.tcl_lang.specs.Goal.{goal_count}
use Rattle.tcl_lang.specs.Versions.{form_of}
use Rattle.tcl_lang.specs.Correct.{IsCounterexample}
use Rattle.tcl_goals.specs.declared.piece.Verdict.{Verdict}
use Rattle.tcl_goals.specs.declared.piece.Verdict.TheVariants as verdict
use Rattle.tcl_goals.specs.Places.{goal_place}
use Rattle.tcl_board.specs.Shows.{Causes}
use Rattle.tcl_board.specs.State.{BoardState}
use Rattle.tcl_board.specs.Steps.{is_broken_goal}
use Rattle.tcl_board.specs.Told.{Answer, Proved, Refuted, Unproved, Strayed, answer_of, verdict_of, AnswerHolds}
use Rattle.tcl_board.specs.Finished.{IsFinal}
use Rattle.tcl_report.specs.Events.{admits, breaks}
use Rattle.tcl_report.specs.Report.{report_of}

-- the word behind the kind of a goal
abbrev pub is_proved : Answer → Bool
is_proved Proved = true
is_proved _ = false

abbrev pub is_refuted : Answer → Bool
is_refuted (Refuted input) = true
is_refuted _ = false

abbrev pub is_unproved : Answer → Bool
is_unproved (Unproved c) = true
is_unproved (Strayed place input) = true
is_unproved _ = false

-- the goal of this place is refuted by the input, and its line says that it is refuted
pub record IsRefutedAt (s : BoardState) (place : ℕ) (input : List ℤ) : Type 0 where
  pub goal : ℕ
  pub exists : goal < goal_count s.program.lines
  pub at : goal_place s.program.lines goal ≡ place
  pub refutes : IsCounterexample (length s.program.variables) s.program.lines input goal
  pub told : is_refuted (answer_of s goal) ≡ true

-- A stray that is the break of a smaller goal comes with that goal refuted. No other stray is a goal with the truth `No`, which
-- its input would break.
abbrev pub StraySays : BoardState → Answer → Type 0
StraySays s (Strayed place input) = IsRefutedAt s place input
StraySays s (Unproved c) = is_broken_goal s.program c ≡ false
StraySays s _ = ⊤

-- The line of a goal. What is told of it holds: it is sound; or the input refutes it; or the cause is true of the piece of
-- the goal with the greatest number that ended with one. It is proved exactly where an event admits it, and refuted exactly
-- where an event submits a break of it; else it is unproved, and by no model.
pub record LineSays (causes : Causes) (s : BoardState) (g : ℕ) (answer : Answer) : Type 0 where
  pub holds : AnswerHolds causes s g answer
  pub proved : is_proved answer ≡ admits g s.events
  pub refuted : is_refuted answer ≡ breaks g s.events
  pub final : IsFinal answer
  pub stray : StraySays s answer

-- The last line: each goal is proved; or some goal is refuted; or none is, and some goal is unproved.
pub record SomeGoal (s : BoardState) (test : Answer → Bool) : Type 0 where
  pub goal : ℕ
  pub exists : goal < goal_count s.program.lines
  pub passes : test (answer_of s goal) ≡ true

abbrev pub EachGoal : BoardState → (Answer → Bool) → Bool → Type 0
EachGoal s test b = (g : ℕ) → g < goal_count s.program.lines → test (answer_of s g) ≡ b

abbrev pub VerdictSays : BoardState → Verdict → Type 0
VerdictSays s verdict.Verified = EachGoal s is_proved true
VerdictSays s verdict.Refuted = SomeGoal s is_refuted
VerdictSays s verdict.Unproved = EachGoal s is_refuted false × SomeGoal s is_unproved

-- The text is the report on the program by what the board tells, and each line of it is true. Causes are true by a relation
-- that is not looked into here.
pub record IsReport (causes : Causes) (p : ReadProgram) (s : BoardState) (text : List ℕ) : Type 0 where
  pub text_is : text ≡ report_of p s
  pub form : s.program ≡ form_of p.program
  pub lines : (g : ℕ) → g < goal_count s.program.lines → LineSays causes s g (answer_of s g)
  pub verdict : VerdictSays s (verdict_of s)
