-- What is done and what is left make the whole input.
use Rattle.std.proofs.Common.{◌≡◌, ◌++◌, drop}
use Rattle.tcl_slice.specs.Runs.{input_from}
use Rattle.tcl_blast.proofs.inputs.taken_values.Given as goal

abbrev pub invariant-loop-k : goal.invariant-loop-k
invariant-loop-k l = l.input ++ input_from (drop l.k l.lines) l.values ≡ input_from l.lines l.values
