-- The values that are left have the answer.
use Rattle.std.proofs.Common.{◌≡◌, drop}
use Rattle.tcl_worker.specs.Inputs as inputs
use Rattle.tcl_worker.proofs.inputs.looked_up.Given as goal

abbrev pub invariant-loop-k : goal.invariant-loop-k
invariant-loop-k l = inputs.looked_up (drop l.k l.free) l.variable ≡ inputs.looked_up l.free l.variable
