use Rattle.std.proofs.Common.{◌≡◌, None}
use Rattle.tcl_board.specs.Moves as words
use Rattle.tcl_board.proofs.board.Board.none_admissible.Given as goal

abbrev pub invariant-loop-goal : goal.invariant-loop-goal
invariant-loop-goal g l = words.first_below (words.may_admit l.self.position) l.goal ≡ None
