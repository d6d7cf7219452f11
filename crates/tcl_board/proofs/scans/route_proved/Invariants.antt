use Rattle.std.proofs.Common.{◌≡◌, None}
use Rattle.tcl_board.specs.Moves as words
use Rattle.tcl_board.proofs.scans.route_proved.Given as goal

abbrev pub invariant-loop-k : goal.invariant-loop-k
invariant-loop-k l = words.first_below (words.unproved_at l.pieces l.statuses l.goal l.route) l.k ≡ None
