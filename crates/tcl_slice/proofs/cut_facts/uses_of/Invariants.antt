-- The instructions so far.
use Rattle.std.proofs.Common.{◌≡◌}
use Rattle.tcl_goals.specs.Numbers.{those_below}
use Rattle.tcl_goals.specs.Slices.{is_sliced_step}
use Rattle.tcl_slice.proofs.cut_facts.uses_of.Given as goal

abbrev pub invariant-loop-k : goal.invariant-loop-k
invariant-loop-k l = l.uses ≡ those_below (is_sliced_step l.lines l.starts l.marks) l.k
