-- The lines that are left and the values that are left.
use Rattle.std.proofs.Common.{◌≡◌, ◌≤◌, length, drop}
use Rattle.tcl_lang.specs.Run.{taken_types}
use Rattle.tcl_exec.specs.Fitting.{is_fitting}
use Rattle.tcl_exec.proofs.input.is_fitting.Given as goal

abbrev pub invariant-loop-k : goal.invariant-loop-k
invariant-loop-k l = record {
  left : is_fitting (taken_types l.lines) l.input ≡ is_fitting (taken_types (drop l.k l.lines)) (drop l.at l.input);
  within : l.at ≤ length l.input;
}
