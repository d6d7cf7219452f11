-- The variables that are left.
use Rattle.std.proofs.Common.{◌≡◌, drop}
use Rattle.tcl_slice.specs.Touching as touching
use Rattle.tcl_slice.proofs.links.touch_all.Given as goal

abbrev pub invariant-loop-k : goal.invariant-loop-k
invariant-loop-k l = touching.touched_all l.rows.items l.j (drop l.k l.vs) ≡ touching.touched_all l.fn.rows.items l.j l.vs
