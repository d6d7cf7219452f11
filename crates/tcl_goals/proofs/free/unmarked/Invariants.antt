-- The variables before this one.
use Rattle.std.proofs.Common.{◌≡◌, ◌&&◌, not}
use Rattle.tcl_goals.specs.Numbers as numbers
use Rattle.tcl_goals.specs.Closure as closures
use Rattle.tcl_goals.proofs.free.unmarked.Given as goal

abbrev pub invariant-loop-v : goal.invariant-loop-v
invariant-loop-v l = l.chosen ≡ numbers.those_below (λ v. closures.is_marked l.named.marks v && not (closures.is_marked l.computed.marks v)) l.v
