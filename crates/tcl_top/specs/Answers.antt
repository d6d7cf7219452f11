-- What a finished board tells of the goals of a program, and how far it settles them.
use Rattle.std.specs.Prelude.{◌≡◌, ◌<◌, ℕ, ℤ, true, false, List, length}
use Rattle.std.specs.Bool.{⊤}
use Rattle.tcl_lang.specs.declared.pred.Line.{Line}
use Rattle.tcl_lang.specs.Program.{ReadProgram}
use Rattle.tcl_lang.specs.Goal.{goal_count}
use Rattle.tcl_lang.specs.Versions.{form_of}
use Rattle.tcl_lang.specs.Correct.{IsCounterexample}
use Rattle.tcl_goals.specs.declared.piece.Route.{Route}
use Rattle.tcl_goals.specs.Slices.{whole_fact, route_fact}
use Rattle.tcl_goals.specs.Plans.{plan_of}
use Rattle.tcl_board.specs.declared.event.Event.{Event}
use Rattle.tcl_board.specs.State.{BoardState, opening}
use Rattle.tcl_board.specs.Steps.{IsRun}
use Rattle.tcl_board.specs.Finished.{IsClosed}
use Rattle.tcl_board.specs.Told.{Answer, Proved, Refuted, Unproved, Strayed, Open, answer_of}
use Rattle.tcl_kernel.specs.Causes.{is_walked_by, IsTrueCause}
use Rattle.tcl_settled.specs.Settled.{IsSettledBy}
use Rattle.tcl_report.specs.ReportSays.{is_proved, is_unproved}

-- as many clauses as a search may derive, and as many assignments as a walk may go through
abbrev pub search_budget : ℕ
search_budget = 131072

-- what is told of goal g of these lines: no input refutes it, or this input does
abbrev pub Tells : ℕ → List Line → ℕ → Answer → Type 0
Tells names lines g Proved = (input : List ℤ) → IsCounterexample names lines input g → ⊥
Tells names lines g (Refuted input) = IsCounterexample names lines input g
Tells names lines g (Unproved c) = ⊤
Tells names lines g (Strayed place input) = ⊤
Tells names lines g Open = ⊤

-- What a board tells of goal g of a program is true, and no less than this: the goal is proved where the fact of its cut or its
-- whole route is settled, and it is not unproved where the assignments of its whole fact are walked.
pub record IsTrueAnswer (names : ℕ) (lines : List Line) (s : BoardState) (g : ℕ) (answer : Answer) : Type 0 where
  pub tells : Tells names lines g answer
  pub settled : (r : Route) → IsSettledBy s.program (route_fact s.program g r) → is_proved answer ≡ true
  pub walked : is_walked_by s.program s.budget (whole_fact s.program g) ≡ true → is_unproved answer ≡ false

-- The board comes from the opening one of the program's versioned form, with one piece for each route of each goal and the
-- stated budget, by a run of these events; nothing is left to do on it; and what it tells of each goal is true.
pub record IsBoardOf (p : ReadProgram) (events : List Event) (s : BoardState) : Type 0 where
  pub closed : IsClosed s (form_of p.program) (plan_of (form_of p.program) 0) search_budget
  pub run : IsRun IsTrueCause (opening (form_of p.program) (plan_of (form_of p.program) 0) search_budget) events s
  pub answers : (g : ℕ) → g < goal_count s.program.lines →
      IsTrueAnswer (length p.program.names) p.program.lines s g (answer_of s g)
