-- The hypotheses so far.
use Rattle.std.proofs.Common.{◌≡◌}
use Rattle.tcl_goals.specs.Numbers.{those_below}
use Rattle.tcl_goals.specs.Defaults.{line_hyps}
use Rattle.tcl_goals.specs.Slices.{is_sliced_hyp}
use Rattle.tcl_slice.proofs.cut_facts.hyps_of.Given as goal

abbrev pub invariant-loop-k : goal.invariant-loop-k
invariant-loop-k l = l.hyps ≡ line_hyps (those_below (is_sliced_hyp l.lines l.starts l.marks) l.k)
