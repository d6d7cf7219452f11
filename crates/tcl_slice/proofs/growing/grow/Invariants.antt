-- The variables so far were followed.
use Rattle.std.proofs.Common.{◌≡◌}
use Rattle.tcl_slice.specs.Touching as touching
use Rattle.tcl_slice.proofs.growing.grow.Given as goal

abbrev pub invariant-loop-n : goal.invariant-loop-n
invariant-loop-n l = l.search ≡ touching.grown l.lines l.starts l.place l.links.rows.items l.fn.search l.n
