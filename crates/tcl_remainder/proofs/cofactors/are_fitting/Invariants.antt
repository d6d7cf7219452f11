-- The lines that are left decide, and those that were passed are narrow.
use Rattle.std.proofs.Common.{◌≡◌, drop}
use Rattle.tcl_ring.specs.Reduction.{reduced_by}
use Rattle.tcl_remainder.specs.Lines as s
use Rattle.tcl_remainder.proofs.cofactors.are_fitting.Given as goal

abbrev pub invariant-loop-line : goal.invariant-loop-line
invariant-loop-line g l =
    let reduced = reduced_by (g.R.Ring.modulus_of l.ring) in
    s.are_fitting reduced l.equations (drop l.line-index l.lines) ≡ s.are_fitting reduced l.equations l.fn.lines
