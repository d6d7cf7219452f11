use Rattle.std.proofs.Common.{drop}
use Rattle.tcl_circuits.specs.Circuits.{wires, product}
use Rattle.tcl_circuits.proofs.Rows.{RowsOn}
use Rattle.tcl_circuits.proofs.multiplication.product.Given as goal

abbrev pub invariant-loop-k : goal.invariant-loop-k
invariant-loop-k l = RowsOn l.fn.gates l.a l.k (wires l.gates l.sum) (product l.fn.gates l.a l.b) (drop l.k l.b)
