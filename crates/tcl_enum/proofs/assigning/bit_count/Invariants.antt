-- The bits of the variables from here on.
use Rattle.std.proofs.Common.{◌≡◌, ◌≤◌, length, drop}
use Rattle.tcl_enum.specs.Patterns as patterns
use Rattle.tcl_enum.proofs.assigning.bit_count.Given as goal

abbrev pub invariant-loop-k : goal.invariant-loop-k
invariant-loop-k l = record {
  count : l.count ≡ patterns.bit_count l.variables (drop l.k l.free);
  within : l.k ≤ length l.free;
}

abbrev pub decreases-loop-k : goal.decreases-loop-k
decreases-loop-k l = l.k
