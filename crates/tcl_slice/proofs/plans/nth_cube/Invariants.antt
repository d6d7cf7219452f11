-- The bits so far and those that are left.
use Rattle.std.proofs.Common.{◌≡◌, ◌++◌, drop}
use Rattle.tcl_goals.specs.Plans.{nth_cube}
use Rattle.tcl_slice.proofs.plans.nth_cube.Given as goal

abbrev pub invariant-loop-k : goal.invariant-loop-k
invariant-loop-k l = l.cube ++ nth_cube (drop l.k l.bits) l.n ≡ nth_cube l.bits l.n
