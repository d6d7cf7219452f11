use Rattle.std.proofs.Common.{◌≡◌, drop}
use Rattle.tcl_bits.specs.Circuit.{less_bit}
use Rattle.tcl_bits.proofs.Steps.{less_rest}
use Rattle.tcl_bits.proofs.programs.is_less.Given as goal

abbrev pub invariant-loop-i : goal.invariant-loop-i
invariant-loop-i l = less_rest l.signed (drop l.i l.xs) (drop l.i l.ys) l.carry ≡ less_bit l.signed l.xs l.ys
