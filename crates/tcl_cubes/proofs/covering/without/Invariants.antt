-- What is kept so far and the literals that are left.
use Rattle.std.proofs.Common.{◌≡◌, ◌++◌, drop}
use Rattle.tcl_cubes.specs.Covering as covering
use Rattle.tcl_cubes.proofs.covering.without.Given as goal

abbrev pub invariant-loop-k : goal.invariant-loop-k
invariant-loop-k l = l.kept ++ covering.without l.literal (drop l.k l.bits) ≡ covering.without l.literal l.bits
