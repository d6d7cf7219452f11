-- What contracts see of a board.
use Rattle.std.specs.Prelude.{ℕ, if◌then◌else◌, List, [], ◌∷◌, ◌++◌, slice_get}
use Rattle.tcl_lang.specs.Program.{VersionedProgram}
use Rattle.tcl_lang.specs.Goal.{goal_count}
use Rattle.tcl_goals.specs.declared.piece.Piece.{Piece}
use Rattle.tcl_board.specs.declared.event.Event.{Event}
use Rattle.tcl_board.specs.declared.event.Event.TheVariants as event
use Rattle.tcl_board.specs.declared.event.Word.{Word}
use Rattle.tcl_board.specs.declared.evidence.Seen.{Seen}
use Rattle.tcl_board.specs.Moves.{Position, opening_of, moved, drops}

-- a program, the plan that the board began with, the budget, the events in order, the position, and what is kept
pub record BoardState : Type 0 where
  pub program : VersionedProgram
  pub plan : List Piece
  pub budget : ℕ
  pub events : List Event
  pub position : Position
  pub kept : List Seen

abbrev pub opening : VersionedProgram → List Piece → ℕ → BoardState
opening p plan budget =
    record {
      program = p;
      plan = plan;
      budget = budget;
      events = [];
      position = opening_of plan (goal_count p.lines);
      kept = [];
    }

-- the state after an event that brings nothing
abbrev pub stepped : BoardState → Event → BoardState
stepped s e = record s { events = s.events ++ e ∷ []; position = moved s.position e }

-- the state after a submission
abbrev pub given : BoardState → ℕ → ℕ → Word → Seen → BoardState
given s w q what gift =
    record s {
      events = s.events ++ event.Submit w q what ∷ [];
      position = moved s.position (event.Submit w q what);
      kept = if drops s.position (slice_get s.position.pieces q) what then s.kept else s.kept ++ gift ∷ [];
    }
