-- The hypotheses before the line.
use Rattle.std.proofs.Common.{◌≡◌}
use Rattle.tcl_goals.specs.Defaults.{line_hyps}
use Rattle.tcl_goals.specs.Numbers.{those_below}
use Rattle.tcl_goals.specs.Slices.{is_hypothesis_at}
use Rattle.tcl_slice.proofs.whole_facts.hyps_before.Given as goal

abbrev pub invariant-loop-k : goal.invariant-loop-k
invariant-loop-k l = l.hyps ≡ line_hyps (those_below (is_hypothesis_at l.lines) l.k)
