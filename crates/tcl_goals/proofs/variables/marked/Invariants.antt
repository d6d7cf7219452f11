-- The variables before this one.
use Rattle.std.proofs.Common.{◌≡◌}
use Rattle.tcl_goals.specs.Numbers as numbers
use Rattle.tcl_goals.specs.Closure as closures
use Rattle.tcl_goals.proofs.variables.marked.Given as goal

abbrev pub invariant-loop-v : goal.invariant-loop-v
invariant-loop-v l = l.chosen ≡ numbers.those_below (closures.is_marked l.named.marks) l.v
