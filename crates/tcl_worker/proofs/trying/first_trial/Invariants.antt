-- No trial before this one refutes.
use Rattle.tcl_kernel.specs.Trials.{NoTrialRefutes}
use Rattle.tcl_worker.proofs.trying.first_trial.Given as goal

abbrev pub invariant-loop-k : goal.invariant-loop-k
invariant-loop-k l = NoTrialRefutes l.ssa l.goal l.k
