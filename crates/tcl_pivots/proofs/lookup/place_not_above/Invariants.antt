-- The rows before place `low` have greater leading monomials.
use Rattle.std.proofs.Common.{◌≤◌, ◌-◌, length}
use Rattle.tcl_pivots.specs.Held.{pivots_shown, pivots_at}
use Rattle.tcl_pivots.specs.Lookup.{AreAbove}
use Rattle.tcl_pivots.proofs.lookup.place_not_above.Given as goal

abbrev pub invariant-loop-low : goal.invariant-loop-low
invariant-loop-low g l =
    (l.from ≤ l.low) × (l.low ≤ l.high) × (l.high ≤ length l.order)
    × AreAbove (pivots_at (pivots_shown (g.R.Ring.amount l.ring) l.kept) l.order) l.mono l.from l.low

abbrev pub decreases-loop-low : goal.decreases-loop-low
decreases-loop-low g l = l.high - l.low
