use Rattle.std.proofs.Common.{◌≡◌, ◌≤◌, length}
use Rattle.tcl_board.specs.Told as told
use Rattle.tcl_board.proofs.scans.last_cause.Given as goal

abbrev pub invariant-loop-k : goal.invariant-loop-k
invariant-loop-k l =
    (told.last_below (told.ends_with_cause l.pieces l.statuses l.goal) (length l.pieces) ≡ told.last_below (told.ends_with_cause l.pieces l.statuses l.goal) l.k)
    × (l.span.first ≤ l.k)
    × (l.k ≤ length l.pieces)

abbrev pub decreases-loop-k : goal.decreases-loop-k
decreases-loop-k l = l.k
