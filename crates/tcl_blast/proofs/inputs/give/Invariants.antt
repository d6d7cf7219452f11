-- The variables that are left have their bits from here on.
use Rattle.std.proofs.Common.{◌≡◌, ◌≤◌, ◌+◌, ◌*◌, drop}
use Rattle.tcl_blast.specs.FreeBits as free_bits
use Rattle.tcl_blast.proofs.inputs.give.Given as goal

abbrev pub invariant-loop-k : goal.invariant-loop-k
invariant-loop-k l = record {
  first : l.first ≤ 64 * l.k + 1;
  values : free_bits.given_from l.variables l.bits l.first (drop l.k l.free) l.values ≡ free_bits.given_from l.variables l.bits 1 l.free l.fn.values;
}
