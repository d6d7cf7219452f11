-- The cubes so far and the literals that are left.
use Rattle.std.proofs.Common.{◌≡◌, drop}
use Rattle.tcl_cubes.specs.Covering as covering
use Rattle.tcl_cubes.proofs.covering.are_covering.Given as goal

abbrev pub invariant-loop-k : goal.invariant-loop-k
invariant-loop-k l = covering.restricted_by (drop l.k l.cube) l.left.items ≡ covering.restricted_by l.cube l.cubes
