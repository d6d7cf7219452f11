-- The goals so far, no more than lines.
use Rattle.std.proofs.Common.{◌≡◌, ◌≤◌}
use Rattle.tcl_lang.specs.Goal.{goals_before}
use Rattle.tcl_slice.proofs.plans.goal_count.Given as goal

abbrev pub invariant-loop-k : goal.invariant-loop-k
invariant-loop-k l = record {
  count : l.count ≡ goals_before l.lines l.k;
  few : l.count ≤ l.k;
}
