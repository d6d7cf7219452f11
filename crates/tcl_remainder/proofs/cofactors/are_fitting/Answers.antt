-- Degrees that add to at most 1,024 are narrow.
use Rattle.tcl_ring.specs.Reduction.{reduced_by}
use Rattle.tcl_remainder.specs.Lines as s
use Rattle.tcl_remainder.proofs.LineTurns.{fitting_narrow, fitting_ended}
use Rattle.tcl_remainder.proofs.cofactors.are_fitting.Goals as goal

pub returns-clause-narrow : goal.returns-clause-narrow
returns-clause-narrow g c =
    let reduced = reduced_by (g.R.Ring.modulus_of c.args.ring.now) in
    let equations = c.args.equations.now in
    let lines = c.args.lines.now in
    λ _. fitting_narrow reduced equations lines
    (fitting_ended reduced equations c.as_slice-lines.result.now c.loop-line.line-index (s.are_fitting reduced equations lines) c.loop-line-test.false c.loop-line.invariant)
