-- One cofactor more, and what fits.
use Rattle.std.proofs.Common.{refl}
use Rattle.tcl_ring.specs.Reduction.{reduced_by}
use Rattle.tcl_poly.specs.declared.cofactors.Cofactor.{Cofactor}
use Rattle.tcl_remainder.specs.Lines as s
use Rattle.tcl_remainder.proofs.LineTurns.{line_at, over_more, cofactor_more, cofactors_ended, cofactors_fit}
use Rattle.tcl_remainder.proofs.cofactors.cofactors_of.Goals as goal

pub loop-line-preserved : goal.loop-line-preserved
loop-line-preserved g c =
    let modulus = g.R.Ring.modulus_of c.args.ring.now in
    let value = g.R.Ring.amount c.args.ring.now in
    let lines = c.as_slice-lines.result.now in
    let k = c.loop-line.line-index in
    let line = c.line-item.result in
    let cofactor : Cofactor g.row.R.Denot g.row.R-Elem.Denot = record { equation = line.equation; poly = c.in_ok-poly.poly } in (
      (line_at (reduced_by modulus) lines k line c.line-item.is c.loop-line-test.true c.loop-line.invariant.0).1,
      over_more modulus value c.loop-line.cofactors c.push.new.self cofactor c.in_ok-push.ensures.pushed c.loop-line.invariant.1 c.in_ok-poly.ensures.over,
      cofactor_more (reduced_by modulus) value lines k line c.loop-line.cofactors c.push.new.self cofactor (s.cofactors_of (reduced_by modulus) c.args.lines.now) c.line-item.is c.loop-line-test.true
          refl c.in_ok-poly.ensures.terms c.in_ok-push.ensures.pushed c.loop-line.invariant.2,
    )

pub returns-clause-fitting : goal.returns-clause-fitting
returns-clause-fitting g c =
    let modulus = g.R.Ring.modulus_of c.args.ring.now in
    let value = g.R.Ring.amount c.args.ring.now in
    let made = cofactors_ended (reduced_by modulus) c.as_slice-lines.result.now c.loop-line.line-index (s.valued value (s.numbered c.loop-line.cofactors)) (s.cofactors_of (reduced_by modulus) c.args.lines.now) c.loop-line-test.false c.loop-line.invariant.2 in
    λ equations fits. cofactors_fit modulus value equations (s.numbered c.loop-line.cofactors) c.args.lines.now made c.loop-line.invariant.1 fits
