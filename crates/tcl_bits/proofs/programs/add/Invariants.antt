use Rattle.std.proofs.Common.{◌≡◌, ◌++◌, drop}
use Rattle.tcl_bits.specs.Circuit.{sum_bits, carry_out}
use Rattle.tcl_bits.proofs.programs.add.Given as goal

abbrev pub invariant-loop-i : goal.invariant-loop-i
invariant-loop-i l = record {
  bits : l.bits.items ++ sum_bits (drop l.i l.xs) (drop l.i l.ys) l.next ≡ sum_bits l.xs l.ys l.carry;
  carry : carry_out (drop l.i l.xs) (drop l.i l.ys) l.next ≡ carry_out l.xs l.ys l.carry;
}
