-- The lists so far are empty.
use Rattle.std.proofs.Common.{◌≡◌, replicate, []}
use Rattle.tcl_slice.proofs.links.no_rows.Given as goal

abbrev pub invariant-loop-k : goal.invariant-loop-k
invariant-loop-k l = l.rows.items ≡ replicate l.k []
