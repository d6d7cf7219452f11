-- The copies so far.
use Rattle.std.proofs.Common.{◌≡◌, take}
use Rattle.tcl_cubes.proofs.covering.copies.Given as goal

abbrev pub invariant-loop-cube : goal.invariant-loop-cube
invariant-loop-cube l = l.all.items ≡ take l.cube-index l.cubes
