-- The goals before this place are counted.
use Rattle.std.proofs.Common.{◌≡◌, ◌≤◌}
use Rattle.tcl_lang.specs.Goal.{goals_before}
use Rattle.tcl_worker.proofs.strays.goals_before.Given as goal

abbrev pub invariant-loop-k : goal.invariant-loop-k
invariant-loop-k l = record {
  count : l.count ≡ goals_before l.lines l.k;
  within : l.count ≤ l.k;
}
