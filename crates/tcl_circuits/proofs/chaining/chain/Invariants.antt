use Rattle.std.proofs.Common.{drop}
use Rattle.tcl_circuits.specs.Circuits.{wire, chain}
use Rattle.tcl_circuits.proofs.Loops.{LinksOn}
use Rattle.tcl_circuits.proofs.chaining.chain.Given as goal

abbrev pub invariant-loop-k : goal.invariant-loop-k
invariant-loop-k l = LinksOn l.fn.kind l.fn.gates (wire l.gates l.last) (chain l.fn.kind l.fn.gates l.a l.b) (drop l.k l.a) (drop l.k l.b)
