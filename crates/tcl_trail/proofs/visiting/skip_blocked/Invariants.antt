use Rattle.std.proofs.Common.{◌-◌, ◌≤◌, length}
use Rattle.tcl_trail.specs.Watching.{listed, AreVisited}
use Rattle.tcl_trail.proofs.visiting.skip_blocked.Given as goal

abbrev pub invariant-blocked : goal.invariant-blocked
invariant-blocked l = AreVisited l._clauses l.watching l.assigned.entries l.lit l.i × (l.from ≤ l.i)

abbrev pub decreases-blocked : goal.decreases-blocked
decreases-blocked l = length (listed l.watching.lists l.lit) - l.i
