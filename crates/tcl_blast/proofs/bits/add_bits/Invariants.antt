-- The bits so far have their clauses.
use Rattle.std.proofs.Common.{◌≡◌, fold, drop}
use Rattle.tcl_blast.specs.Blasted.{with_bit}
use Rattle.tcl_blast.proofs.bits.add_bits.Given as goal

abbrev pub invariant-loop-bit : goal.invariant-loop-bit
invariant-loop-bit l = fold with_bit l.blasted (drop l.bit-index l.bits) ≡ fold with_bit l.fn.blasted l.bits
