use Rattle.std.proofs.Common.{◌≡◌, ◌+◌, ◌++◌, drop}
use Rattle.tcl_gates.specs.Gates.{clauses_from, clauses_behind}
use Rattle.tcl_gates.proofs.encoding.add_gates.Given as goal

-- the clauses so far and those of the gates that are left are all clauses
abbrev pub invariant-loop-k : goal.invariant-loop-k
invariant-loop-k l = l.cnf ++ clauses_from (l.k + 1) (drop l.k l.gates) ≡ l.fn.cnf ++ clauses_behind l.fn.from l.gates
