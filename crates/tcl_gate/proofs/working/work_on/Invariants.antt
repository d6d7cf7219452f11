-- The piece is the one that is held, as long as one is.
use Rattle.std.proofs.Common.{◌≡◌, Some}
use Rattle.std.specs.List.{slice_get}
use Rattle.tcl_goals.specs.Plans.{IsPiece}
use Rattle.tcl_gate.specs.Extends.{Extends}
use Rattle.tcl_gate.specs.Alone.{HeldOn}
use Rattle.tcl_gate.proofs.Turns.{room_left}
use Rattle.tcl_gate.proofs.working.work_on.Given as goal

abbrev pub invariant-loop-on : goal.invariant-loop-on
invariant-loop-on g l = record {
  extends : Extends g.E.Evidence.causes l.fn.board l.board;
  pieces : slice_get l.board.position.pieces l.number ≡ Some l.piece;
  is_piece : IsPiece l.board.program l.piece;
  held : HeldOn l.board.position l.number l.on;
}

abbrev pub decreases-loop-on : goal.decreases-loop-on
decreases-loop-on g l = room_left l.board
