use Rattle.std.proofs.Common.{drop}
use Rattle.tcl_circuits.specs.Circuits.{carried, adder}
use Rattle.tcl_circuits.proofs.Adders.{AddsOn}
use Rattle.tcl_circuits.proofs.addition.adder.Given as goal

abbrev pub invariant-loop-k : goal.invariant-loop-k
invariant-loop-k l = AddsOn l.fn.gates (carried l.gates l.word l.next) (adder l.fn.gates l.a l.b l.fn.carry) (drop l.k l.a) (drop l.k l.b)
