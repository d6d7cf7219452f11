-- The gates of the rows so far.
use Rattle.std.proofs.Common.{◌≡◌, ◌≤◌, ◌*◌}
use Rattle.tcl_blast.specs.Sizes.{product_gates}
use Rattle.tcl_blast.proofs.sizes.product_gates.Given as goal

abbrev pub invariant-loop-k : goal.invariant-loop-k
invariant-loop-k l = (l.gates ≡ product_gates l.k) × (l.gates ≤ 1024 * l.k)
