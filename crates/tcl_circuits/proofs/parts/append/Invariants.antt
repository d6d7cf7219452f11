use Rattle.std.proofs.Common.{◌≡◌, ◌++◌, take}
use Rattle.tcl_circuits.proofs.parts.append.Given as goal

abbrev pub invariant-loop-k : goal.invariant-loop-k
invariant-loop-k l = l.a ≡ l.fn.a ++ take l.k l.b
