use Rattle.std.proofs.Common.{subst}
use Rattle.tcl_board.specs.Kept.{IsBoard}
use Rattle.tcl_board.proofs.Ending.{finished_has_causes, finished_answers}
use Rattle.tcl_board.proofs.board.Board.finished_has_causes.Goals as goal

pub returns-clause-causes : goal.returns-clause-causes
returns-clause-causes g c = finished_has_causes _ _ (subst (IsBoard g.E.Evidence.causes) c.self.view_is c.self.invariant.0) c.requires

pub returns-clause-answers : goal.returns-clause-answers
returns-clause-answers g c = finished_answers _ _ g.met.E.Evidence.whole (subst (IsBoard g.E.Evidence.causes) c.self.view_is c.self.invariant.0) c.requires
