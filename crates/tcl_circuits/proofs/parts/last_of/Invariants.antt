use Rattle.std.proofs.Common.{◌≡◌, drop}
use Rattle.tcl_circuits.specs.Circuits.{last_lit}
use Rattle.tcl_circuits.proofs.parts.last_of.Given as goal

abbrev pub invariant-loop-k : goal.invariant-loop-k
invariant-loop-k l = last_lit l.last (drop l.k l.a) ≡ last_lit 1 l.a
