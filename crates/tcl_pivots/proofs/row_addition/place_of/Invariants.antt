-- The rows before place i are passed by.
use Rattle.std.proofs.Common.{◌≡◌, ◌-◌, ◌≤◌, ◌++◌, length, take, drop}
use Rattle.tcl_reduce.specs.Row as s
use Rattle.tcl_pivots.specs.Held.{pivots_shown, pivots_at, front_monomial}
use Rattle.tcl_pivots.proofs.row_addition.place_of.Given as goal

abbrev pub invariant-loop-i : goal.invariant-loop-i
invariant-loop-i g l =
    (l.i ≤ length l.order)
    × ((q : s.Pivot) → s.leading q.row.poly ≡ front_monomial l.a →
    s.insert_pivot q (pivots_at (pivots_shown (g.R.Ring.amount l.ring) l.kept) l.order)
    ≡ pivots_at (pivots_shown (g.R.Ring.amount l.ring) l.kept) (take l.i l.order) ++ s.insert_pivot q (pivots_at (pivots_shown (g.R.Ring.amount l.ring) l.kept) (drop l.i l.order)))

abbrev pub decreases-loop-i : goal.decreases-loop-i
decreases-loop-i g l = length l.order - l.i
