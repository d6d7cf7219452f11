-- The bits so far and those that are left.
use Rattle.std.proofs.Common.{◌≡◌, ◌++◌}
use Rattle.tcl_goals.specs.Free as free
use Rattle.tcl_goals.proofs.free.push_bits.Given as goal

abbrev pub invariant-loop-left : goal.invariant-loop-left
invariant-loop-left l = l.bits ++ free.bits_down l.v l.left ≡ l.fn.bits ++ free.bits_down l.v l.width

abbrev pub decreases-loop-left : goal.decreases-loop-left
decreases-loop-left l = l.left
