-- No piece is held between two of them.
use Rattle.tcl_gate.specs.Extends.{Extends}
use Rattle.tcl_gate.specs.Alone.{NoneHeld}
use Rattle.tcl_gate.proofs.Turns.{room_left}
use Rattle.tcl_gate.proofs.alone.drive_alone.Given as goal

abbrev pub invariant-loop-number : goal.invariant-loop-number
invariant-loop-number g l = record {
  extends : Extends g.E.Evidence.causes l.fn.board l.board;
  free : NoneHeld l.board.position;
}

abbrev pub decreases-loop-number : goal.decreases-loop-number
decreases-loop-number g l = room_left l.board
