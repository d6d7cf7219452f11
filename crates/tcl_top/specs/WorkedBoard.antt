-- A board of a program on which all work is done. No public clause cites this module.
use Rattle.std.specs.Prelude.{◌↔◌, ℕ, ℤ, List, length}
use Rattle.tcl_lang.specs.Program.{NamedProgram}
use Rattle.tcl_lang.specs.Versions.{form_of}
use Rattle.tcl_lang.specs.Correct.{IsCounterexample}
use Rattle.tcl_goals.specs.Plans.{plan_of}
use Rattle.tcl_board.specs.State.{BoardState}
use Rattle.tcl_board.specs.Finished.{IsClosed}
use Rattle.tcl_top.specs.Answers.{search_budget}

-- the board is closed, and its form is refuted by the inputs that refute the program
pub record IsWorkedBoard (p : NamedProgram) (s : BoardState) : Type 0 where
  pub closed : IsClosed s (form_of p) (plan_of (form_of p) 0) search_budget
  pub refuted : (input : List ℤ) (g : ℕ) →
      IsCounterexample (length s.program.variables) s.program.lines input g ↔ IsCounterexample (length p.names) p.lines input g
