use Rattle.std.proofs.Common.{◌≡◌, None}
use Rattle.tcl_board.specs.Moves as words
use Rattle.tcl_board.proofs.scans.next.Given as goal

abbrev pub invariant-loop-k : goal.invariant-loop-k
invariant-loop-k l = words.first_below (words.may_claim l.pieces l.statuses l.admitted l.breaks) l.k ≡ None
