-- The bits so far.
use Rattle.std.proofs.Common.{◌≡◌}
use Rattle.tcl_blast.specs.Lifted.{bits_like}
use Rattle.tcl_blast.proofs.lifted.bits_like.Given as goal

abbrev pub invariant-loop-bit : goal.invariant-loop-bit
invariant-loop-bit l = l.bits ≡ bits_like l.v l.ty l.c l.bit
