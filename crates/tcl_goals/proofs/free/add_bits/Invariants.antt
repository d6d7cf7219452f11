-- What is left gives the same set.
use Rattle.std.proofs.Common.{◌≡◌, drop}
use Rattle.tcl_goals.specs.Closure as closures
use Rattle.tcl_goals.specs.Free as free
use Rattle.tcl_goals.proofs.free.add_bits.Given as goal

abbrev pub invariant-loop-j : goal.invariant-loop-j
invariant-loop-j l =
    closures.mark_all l.marks.marks (free.bit_variables (drop l.j l.bits))
    ≡ closures.mark_all l.fn.marks.marks (free.bit_variables l.bits)
