-- The lines that are left.
use Rattle.std.proofs.Common.{◌≡◌, drop}
use Rattle.tcl_slice.specs.Touching as touching
use Rattle.tcl_slice.proofs.links.rows_of.Given as goal

abbrev pub invariant-loop-k : goal.invariant-loop-k
invariant-loop-k l = touching.rows_from l.rows.items l.k (drop l.k l.lines) ≡ touching.rows_of l.variables l.lines
