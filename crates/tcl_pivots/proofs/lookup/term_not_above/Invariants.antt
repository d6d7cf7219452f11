-- The terms before `low` are greater.
use Rattle.std.proofs.Common.{◌≤◌, ◌-◌, length}
use Rattle.tcl_pivots.specs.Lookup.{AreGreater}
use Rattle.tcl_pivots.proofs.lookup.term_not_above.Given as goal

abbrev pub invariant-loop-low : goal.invariant-loop-low
invariant-loop-low g l = (l.low ≤ l.high) × (l.high ≤ length l.list) × AreGreater l.list l.mono l.low

abbrev pub decreases-loop-low : goal.decreases-loop-low
decreases-loop-low g l = l.high - l.low
