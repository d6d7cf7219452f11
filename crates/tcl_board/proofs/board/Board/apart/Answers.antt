use Rattle.std.proofs.Common.{subst}
use Rattle.tcl_board.specs.Kept.{IsBoard}
use Rattle.tcl_board.proofs.Keeping.{board_apart}
use Rattle.tcl_board.proofs.board.Board.apart.Goals as goal

pub returns : goal.returns
returns g c = board_apart c.fact_laws.ensures.unbroken _ _ (subst (IsBoard g.E.Evidence.causes) c.self.view_is c.self.invariant.0)
