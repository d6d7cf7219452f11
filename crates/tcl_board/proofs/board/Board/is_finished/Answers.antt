use Rattle.tcl_board.proofs.Closing.{finished_tells}
use Rattle.tcl_board.proofs.board.Board.is_finished.Goals as goal

pub returns : goal.returns
returns g c = finished_tells _ _ _ c.none_left.result c.self.view_is c.self.invariant.0 c.none_left.ensures
