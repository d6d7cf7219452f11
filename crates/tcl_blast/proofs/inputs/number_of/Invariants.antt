-- The bits so far are the highest.
use Rattle.std.proofs.Common.{◌≡◌, ◌≤◌, ◌+◌, ◌-◌}
use Rattle.tcl_bits.specs.Value.{unsigned_value}
use Rattle.tcl_blast.specs.FreeBits as free_bits
use Rattle.tcl_blast.proofs.inputs.number_of.Given as goal

abbrev pub invariant-loop-left : goal.invariant-loop-left
invariant-loop-left l = record {
  within : l.left ≤ l.width;
  number : l.number ≡ unsigned_value (free_bits.bits_from l.bits (l.first + l.left) (l.width - l.left));
}

abbrev pub decreases-loop-left : goal.decreases-loop-left
decreases-loop-left l = l.left
