-- The values so far and those that are left.
use Rattle.std.proofs.Common.{◌≡◌, ◌++◌, drop}
use Rattle.tcl_enum.specs.Patterns as patterns
use Rattle.tcl_enum.proofs.assigning.free_values.Given as goal

abbrev pub invariant-loop-k : goal.invariant-loop-k
invariant-loop-k l = record {
  shift : l.shift ≡ patterns.bit_count l.variables (drop l.k l.free);
  values : l.values ++ patterns.values_numbered l.variables (drop l.k l.free) l.n ≡ patterns.values_numbered l.variables l.free l.n;
}
