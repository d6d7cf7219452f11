use Rattle.std.proofs.Common.{◌≡◌, ◌≤◌, ◌+◌, drop, length}
use Rattle.tcl_gates.specs.Gates.{values_from, values_of}
use Rattle.tcl_gates.proofs.evaluation.value_of.Given as goal

-- the gates that are left give all values
abbrev pub invariant-loop-k : goal.invariant-loop-k
invariant-loop-k l =
    (values_from l.values.items (drop l.next l.free) (drop l.k l.gates) ≡ values_of l.gates l.free) × (length l.values.items ≡ l.k + 1) × (l.next ≤ l.k)
