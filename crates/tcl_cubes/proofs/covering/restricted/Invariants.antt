-- What is kept so far and the cubes that are left.
use Rattle.std.proofs.Common.{◌≡◌, ◌++◌, drop}
use Rattle.tcl_cubes.specs.Covering as covering
use Rattle.tcl_cubes.proofs.covering.restricted.Given as goal

abbrev pub invariant-loop-k : goal.invariant-loop-k
invariant-loop-k l =
    l.kept.items ++ covering.restricted l.literal (drop l.k l.cubes) ≡ covering.restricted l.literal l.cubes
