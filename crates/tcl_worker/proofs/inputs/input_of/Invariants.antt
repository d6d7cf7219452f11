-- What is done and what is left make the whole input.
use Rattle.std.proofs.Common.{◌≡◌, ◌++◌, drop}
use Rattle.tcl_worker.specs.Inputs as inputs
use Rattle.tcl_worker.proofs.inputs.input_of.Given as goal

abbrev pub invariant-loop-k : goal.invariant-loop-k
invariant-loop-k l = l.input ++ inputs.input_of l.free (drop l.k l.lines) ≡ inputs.input_of l.free l.lines
