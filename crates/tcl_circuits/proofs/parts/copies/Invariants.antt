use Rattle.std.proofs.Common.{◌≡◌, replicate}
use Rattle.tcl_circuits.proofs.parts.copies.Given as goal

abbrev pub invariant-loop-k : goal.invariant-loop-k
invariant-loop-k l = l.word ≡ replicate l.k l.lit
