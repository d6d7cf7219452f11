use Rattle.std.proofs.Common.{◌≡◌, length}
use Rattle.tcl_board.specs.Index.{HaveSpans}
use Rattle.tcl_board.proofs.span.spans_of.Given as goal

abbrev pub invariant-loop-k : goal.invariant-loop-k
invariant-loop-k l = HaveSpans l.pieces l.k l.spans × (length l.spans ≡ l.goals)
