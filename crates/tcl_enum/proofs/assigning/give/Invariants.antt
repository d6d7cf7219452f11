-- The variables from here on have their values.
use Rattle.std.proofs.Common.{◌≡◌, ◌≤◌, length, drop}
use Rattle.tcl_enum.specs.Patterns as patterns
use Rattle.tcl_enum.proofs.assigning.give.Given as goal

abbrev pub invariant-loop-k : goal.invariant-loop-k
invariant-loop-k l = record {
  shift : l.shift ≡ patterns.bit_count l.variables (drop l.k l.free);
  values : l.values ≡ patterns.given (patterns.values_numbered l.variables (drop l.k l.free) l.n) l.fn.values;
  within : l.k ≤ length l.free;
}

abbrev pub decreases-loop-k : goal.decreases-loop-k
decreases-loop-k l = l.k
