-- What fits a piece is taken.
use Rattle.std.specs.Prelude.{◌≡◌, ℕ, slice_get, Option, Some, None}
use Rattle.std.specs.Bool.{⊤}
use Rattle.tcl_goals.specs.declared.piece.Piece.{Piece}
use Rattle.tcl_board.specs.declared.event.Submitted.{Submitted}
use Rattle.tcl_board.specs.declared.event.Submitted.TheVariants as submitted
use Rattle.tcl_board.specs.declared.evidence.Seen.{Seen}
use Rattle.tcl_board.specs.Shows.{Causes}
use Rattle.tcl_board.specs.Moves.{held_of}
use Rattle.tcl_board.specs.State.{BoardState}
use Rattle.tcl_board.specs.Answers.{held_piece}
use Rattle.tcl_board.specs.Judging.{MayGive, answer_of}
use Rattle.tcl_board.specs.Told.{lemmas_for}
use Rattle.tcl_gate.specs.Fits.{FitsPiece}

-- the answer of a step
abbrev pub IsStepped : Submitted → Type 0
IsStepped submitted.Taken = ⊤
IsStepped submitted.Settled = ⊤
IsStepped _ = ⊥

-- it fits the piece of this number, by the board's program, budget and lemmas for it
abbrev pub FitsPieceAt : Causes → BoardState → ℕ → Option Piece → Seen → Type 0
FitsPieceAt causes s k (Some q) gift = FitsPiece causes s.program s.budget q (lemmas_for s k) gift
FitsPieceAt causes s k None gift = ⊥

abbrev pub FitsHeld : Causes → BoardState → ℕ → Seen → Type 0
FitsHeld causes s k gift = FitsPieceAt causes s k (slice_get s.position.pieces k) gift

-- it may be submitted by the worker, and is a step
pub record MaySubmit (causes : Causes) (s : BoardState) (w : ℕ) (gift : Seen) : Type 0 where
  pub truthful : MayGive causes s (held_piece s.position w) gift
  pub answer : IsStepped (answer_of s w gift)

abbrev pub FittingIsTaken : Causes → Type 0
FittingIsTaken causes =
    (s : BoardState) (w k : ℕ) (gift : Seen) → held_of s.position.statuses w ≡ Some k → FitsHeld causes s k gift →
    MaySubmit causes s w gift
