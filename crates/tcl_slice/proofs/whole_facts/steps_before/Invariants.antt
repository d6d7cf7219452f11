-- The instructions before the line.
use Rattle.std.proofs.Common.{◌≡◌}
use Rattle.tcl_goals.specs.Numbers.{those_below}
use Rattle.tcl_goals.specs.Slices.{is_step_at}
use Rattle.tcl_slice.proofs.whole_facts.steps_before.Given as goal

abbrev pub invariant-loop-k : goal.invariant-loop-k
invariant-loop-k l = l.uses ≡ those_below (is_step_at l.lines) l.k
