use Rattle.tcl_board.proofs.Giving.{held_inside}
use Rattle.tcl_board.proofs.Knowing.{piece_is}
use Rattle.tcl_board.proofs.board.Board.held.Goals as goal

pub at-requires : goal.at-requires
at-requires g c = held_inside _ _ _ c.args.worker c.in-Some.piece _ c.self.view_is c.self.invariant.0 c.held_number.ensures c.in-Some.is

pub returns-clause-is_piece : goal.returns-clause-is_piece
returns-clause-is_piece g c = piece_is _ _ _ c.in-Some.piece c.at.result.now c.self.view_is c.self.invariant.0 c.at.ensures
