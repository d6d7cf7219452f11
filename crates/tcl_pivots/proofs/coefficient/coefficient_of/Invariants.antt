-- The monomials before `low` are greater, and those from `high` on are less.
use Rattle.std.proofs.Common.{◌≤◌, ◌-◌, length}
use Rattle.tcl_pivots.specs.Lookup.{AreGreater}
use Rattle.tcl_pivots.proofs.Coefficients.{AreLess}
use Rattle.tcl_pivots.proofs.coefficient.coefficient_of.Given as goal

abbrev pub invariant-loop-low : goal.invariant-loop-low
invariant-loop-low g l =
    (l.low ≤ l.high) × (l.high ≤ length l.list) × AreGreater l.list l.mono l.low × AreLess l.list l.mono l.high

abbrev pub decreases-loop-low : goal.decreases-loop-low
decreases-loop-low g l = l.high - l.low
