-- The reduction by the rows from place i on goes on to that by all.
use Rattle.std.proofs.Common.{◌≡◌, ◌-◌, ◌≤◌, length, drop}
use Rattle.tcl_reduce.specs.Row as rows
use Rattle.tcl_pivots.specs.CofactorLists.{equations_of}
use Rattle.tcl_pivots.specs.RowState.{row_shown, IsSound}
use Rattle.tcl_pivots.specs.Held.{pivots_shown, pivots_at}
use Rattle.tcl_pivots.proofs.row_reduction.reduce_row.Given as goal

abbrev pub invariant-loop-i : goal.invariant-loop-i
invariant-loop-i g l =
    let m = g.R.Ring.modulus_of l.ring in let value = g.R.Ring.amount l.ring in
    let es = equations_of value l.equations in let ps = pivots_shown value l.kept in
    (l.i ≤ length l.order)
    × IsSound m es (row_shown value l.a)
    × (rows.row_by m es (pivots_at ps (drop l.i l.order)) (row_shown value l.a) ≡ rows.row_by m es (rows.by_leading ps) (row_shown value l.fn.a))

abbrev pub decreases-loop-i : goal.decreases-loop-i
decreases-loop-i g l = length l.order - l.i
