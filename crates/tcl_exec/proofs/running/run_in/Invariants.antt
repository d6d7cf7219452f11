-- The values before the line, and how many values were taken.
use Rattle.std.proofs.Common.{◌≡◌, ◌≤◌, length}
use Rattle.tcl_lang.specs.Run.{taken_before}
use Rattle.tcl_lang.specs.Values.{values_before}
use Rattle.tcl_exec.proofs.running.run_in.Given as goal

abbrev pub invariant-loop-k : goal.invariant-loop-k
invariant-loop-k l = record {
  values : l.values ≡ values_before (length l.ssa.variables) l.ssa.lines l.input l.k;
  taken : l.taken ≡ taken_before l.ssa.lines l.k;
  few : l.taken ≤ l.k;
}
