-- The answers of the board's calls, and the states after them.
use Rattle.std.specs.Prelude.{ℕ, Bool, true, false, if◌then◌else◌, List, slice_get, Option, Some, None}
pub use Rattle.std.specs.Prelude.{replicate}
use Rattle.tcl_port.specs.declared.port.Poll.{Poll}
use Rattle.tcl_port.specs.declared.port.Poll.TheVariants as poll
use Rattle.tcl_goals.specs.declared.piece.Piece.{Piece}
use Rattle.tcl_board.specs.declared.event.Event.TheVariants as event
use Rattle.tcl_board.specs.declared.event.Admitted.{Admitted}
use Rattle.tcl_board.specs.declared.event.LemmaMark.{LemmaMark}
use Rattle.tcl_board.specs.Moves.{Position, held_of, goal_settled}
use Rattle.tcl_board.specs.State.{BoardState, stepped}

-- the piece of a number
abbrev pub piece_at : List Piece → Option ℕ → Option Piece
piece_at pieces (Some k) = slice_get pieces k
piece_at pieces None = None

abbrev pub held_piece : Position → ℕ → Option Piece
held_piece p w = piece_at p.pieces (held_of p.statuses w)

-- a poll is cancelled where the goal of the worker's piece is settled
abbrev pub poll_of : Position → ℕ → Poll
poll_of p w = if goal_settled p (held_piece p w) then poll.Cancelled else poll.Go

abbrev pub cancelled : BoardState → ℕ → Option ℕ → BoardState
cancelled s w (Some q) = stepped s (event.Cancel w q)
cancelled s w None = s

abbrev pub polled : BoardState → ℕ → BoardState
polled s w = if goal_settled s.position (held_piece s.position w) then cancelled s w (held_of s.position.statuses w) else s

-- the number of what was kept with a lemma that waits
abbrev pub waiting_kept : Option LemmaMark → Option ℕ
waiting_kept (Some m) = if m.admitted then None else Some m.kept
waiting_kept None = None

abbrev pub admitted_if : Bool → BoardState → Admitted → BoardState
admitted_if true s what = stepped s (event.Admit what)
admitted_if false s what = s
