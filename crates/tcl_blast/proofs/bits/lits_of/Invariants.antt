-- The literals so far, and those of the bits that are left.
use Rattle.std.proofs.Common.{◌≡◌, ◌++◌, map, drop}
use Rattle.tcl_blast.specs.Blasted.{bit_lit}
use Rattle.tcl_blast.proofs.bits.lits_of.Given as goal

abbrev pub invariant-loop-bit : goal.invariant-loop-bit
invariant-loop-bit l = l.lits ++ map (bit_lit l.words) (drop l.bit-index l.bits) ≡ map (bit_lit l.words) l.bits
