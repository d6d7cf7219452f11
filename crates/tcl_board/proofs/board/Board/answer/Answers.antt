use Rattle.tcl_board.proofs.Knowing.{board_answers}
use Rattle.tcl_board.proofs.Indexing.{goal_listed}
use Rattle.tcl_board.proofs.board.Board.answer.Goals as goal

pub returns-in-Some-clause-holds : goal.returns-in-Some-clause-holds
returns-in-Some-clause-holds g c = board_answers _ _ _ c.args.goal c.self.view_is c.self.invariant.0

pub returns-clause-holds : goal.returns-clause-holds
returns-clause-holds g c = board_answers _ _ _ c.args.goal c.self.view_is c.self.invariant.0

pub at-span-requires : goal.at-span-requires
at-span-requires g c = goal_listed _ _ _ c.args.goal _ _ _ c.self.view_is c.self.invariant.0 c.self.invariant.5 c.requires
