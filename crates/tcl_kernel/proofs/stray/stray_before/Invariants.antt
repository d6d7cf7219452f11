-- None of the hypotheses so far strays.
use Rattle.std.proofs.Common.{◌≡◌, None}
use Rattle.tcl_kernel.specs.ValueStrays.{first_of_values}
use Rattle.tcl_kernel.proofs.stray.stray_before.Given as goal

abbrev pub invariant-loop-k : goal.invariant-loop-k
invariant-loop-k l = first_of_values l.ssa l.values l.k ≡ None
