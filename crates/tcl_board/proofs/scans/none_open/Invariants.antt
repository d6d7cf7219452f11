use Rattle.std.proofs.Common.{◌≡◌, None}
use Rattle.tcl_board.specs.Moves as words
use Rattle.tcl_board.specs.Finished as finished
use Rattle.tcl_board.proofs.scans.none_open.Given as goal

abbrev pub invariant-loop-k : goal.invariant-loop-k
invariant-loop-k l = words.first_below (finished.is_open l.pieces l.statuses l.admitted l.breaks) l.k ≡ None
