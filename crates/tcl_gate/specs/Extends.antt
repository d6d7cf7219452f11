-- Runs that go on from a board.
use Rattle.std.specs.Prelude.{◌≡◌, List, ◌++◌}
use Rattle.tcl_board.specs.declared.event.Event.{Event}
use Rattle.tcl_board.specs.Shows.{Causes}
use Rattle.tcl_board.specs.State.{BoardState}
use Rattle.tcl_board.specs.Steps.{IsRun}

-- the new board comes from the old one by a run of these events, which follow the old ones; it is of the same program, plan
-- and budget
pub record Extends (causes : Causes) (old new : BoardState) : Type 0 where
  pub events : List Event
  pub run : IsRun causes old events new
  pub appended : new.events ≡ old.events ++ events
  pub program : new.program ≡ old.program
  pub same_plan : new.plan ≡ old.plan
  pub same_budget : new.budget ≡ old.budget
