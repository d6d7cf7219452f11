-- What is named so far and the cubes that are left.
use Rattle.std.proofs.Common.{◌≡◌, drop, []}
use Rattle.tcl_cubes.specs.Covering as covering
use Rattle.tcl_cubes.proofs.bits.names_at_most.Given as goal

abbrev pub invariant-loop-k : goal.invariant-loop-k
invariant-loop-k l = covering.named_in l.named.items (drop l.k l.cubes) ≡ covering.named_in [] l.cubes
