-- The values so far, and those that follow from the state.
use Rattle.std.proofs.Common.{◌≡◌, ◌++◌, drop}
use Rattle.tcl_lang.specs.Run.{taken_types}
use Rattle.tcl_exec.specs.Trial.{trial_of, trial_from}
use Rattle.tcl_exec.proofs.trials.trial.Given as goal

abbrev pub invariant-loop-place : goal.invariant-loop-place
invariant-loop-place l = record {
  all : l.input ++ trial_from l.fn.k l.state (taken_types (drop l.place l.lines)) ≡ trial_of l.fn.k (taken_types l.lines);
}
