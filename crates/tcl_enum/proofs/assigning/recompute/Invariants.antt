-- What is left gives the same values.
use Rattle.std.proofs.Common.{◌≡◌, drop}
use Rattle.tcl_lang.specs.Values.{AreValues}
use Rattle.tcl_enum.specs.Patterns as patterns
use Rattle.tcl_enum.proofs.assigning.recompute.Given as goal

abbrev pub invariant-loop-k : goal.invariant-loop-k
invariant-loop-k l = record {
  values : patterns.recomputed_all l.ssa.lines (drop l.k l.uses) l.values ≡ patterns.recomputed_all l.ssa.lines l.uses l.fn.values;
  typed : AreValues l.ssa.variables l.values;
}
