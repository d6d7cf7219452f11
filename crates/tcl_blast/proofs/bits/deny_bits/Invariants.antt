-- The bits so far have their clauses.
use Rattle.std.proofs.Common.{◌≡◌, fold, drop}
use Rattle.tcl_blast.specs.Blasted.{without_bit}
use Rattle.tcl_blast.proofs.bits.deny_bits.Given as goal

abbrev pub invariant-loop-bit : goal.invariant-loop-bit
invariant-loop-bit l = fold without_bit l.blasted (drop l.bit-index l.bits) ≡ fold without_bit l.fn.blasted l.bits
