-- What is named so far and the bits that are left.
use Rattle.std.proofs.Common.{◌≡◌, drop}
use Rattle.tcl_cubes.specs.Covering as covering
use Rattle.tcl_cubes.proofs.bits.add_bits.Given as goal

abbrev pub invariant-loop-k : goal.invariant-loop-k
invariant-loop-k l =
    covering.named_after l.named.items (drop l.k l.bits) ≡ covering.named_after l.initial.named.items l.bits
