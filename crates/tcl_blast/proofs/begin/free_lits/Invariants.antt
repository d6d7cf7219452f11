-- The gates and literals of the bits so far.
use Rattle.std.proofs.Common.{◌≡◌, ◌+◌, ◌++◌, length, replicate}
use Rattle.tcl_gates.specs.declared.gate.Gate.TheVariants.{Free}
use Rattle.tcl_blast.specs.Begin.{lits_from}
use Rattle.tcl_blast.proofs.begin.free_lits.Given as goal

abbrev pub invariant-loop-bit : goal.invariant-loop-bit
invariant-loop-bit l = (l.gates ≡ l.fn.gates ++ replicate l.bit Free) × (l.lits ≡ lits_from (length l.fn.gates + 1) l.bit)
