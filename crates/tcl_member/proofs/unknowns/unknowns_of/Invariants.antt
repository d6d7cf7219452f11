-- The unknowns of the rows from k on are added.
use Rattle.std.proofs.Common.{◌≡◌, ◌≤◌, [], length, drop, ℤ}
use Rattle.tcl_reduce.specs.Multiple.{row_unknowns}
use Rattle.tcl_pivots.specs.Held.{pivots_shown}
use Rattle.tcl_member.specs.Course.{keys_in}
use Rattle.tcl_member.proofs.unknowns.unknowns_of.Given as goal

abbrev pub invariant-loop-k : goal.invariant-loop-k
invariant-loop-k g l =
    (l.k ≤ length l.kept)
    × ((value : g.row.R-Elem.Denot → ℤ) → keys_in l.unknowns.items ≡ row_unknowns (pivots_shown value (drop l.k l.kept)) [])

abbrev pub decreases-loop-k : goal.decreases-loop-k
decreases-loop-k g l = l.k
