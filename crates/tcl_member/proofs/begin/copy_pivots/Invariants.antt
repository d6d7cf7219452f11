-- The copies so far are the first rows.
use Rattle.std.proofs.Common.{◌≡◌, ◌++◌, drop}
use Rattle.tcl_member.proofs.begin.copy_pivots.Given as goal

abbrev pub invariant-loop-pivot : goal.invariant-loop-pivot
invariant-loop-pivot g l = l.pivots.items ++ drop l.pivot-index l.kept ≡ l.kept
