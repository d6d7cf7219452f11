-- The numbers of the lines rise, and their polynomials are those of the cofactors.
use Rattle.std.proofs.Common.{◌∙◌, ap}
use Rattle.tcl_ring.specs.Reduction.{reduced_by}
use Rattle.tcl_remainder.specs.Lines as s
use Rattle.tcl_remainder.proofs.LineTurns.{lines_ended, lines_rise, lines_plain, lines_back, lines_fit}
use Rattle.tcl_remainder.proofs.cofactors.lines_of.Goals as goal

pub of-requires : goal.of-requires
of-requires g c =
    let value = g.R.Ring.amount c.args.ring.now in
    let pairs = s.valued value (s.numbered c.args.cofactors.now) in
    let made = lines_ended value c.as_slice-cofactor-items.result.now c.args.cofactors.now c.loop-cofactor.cofactor-index c.loop-cofactor.lines (s.lines_of pairs) c.as_slice-cofactor-items.ensures c.loop-cofactor-test.false c.loop-cofactor.invariant.2 in
    ap s.are_rising made ∙ lines_rise pairs c.requires.plain

pub returns-clause-cofactors : goal.returns-clause-cofactors
returns-clause-cofactors g c =
    let modulus = g.R.Ring.modulus_of c.args.ring.now in
    let value = g.R.Ring.amount c.args.ring.now in
    let pairs = s.valued value (s.numbered c.args.cofactors.now) in
    let made = lines_ended value c.as_slice-cofactor-items.result.now c.args.cofactors.now c.loop-cofactor.cofactor-index c.loop-cofactor.lines (s.lines_of pairs) c.as_slice-cofactor-items.ensures c.loop-cofactor-test.false c.loop-cofactor.invariant.2 in
    ap (s.cofactors_of (reduced_by modulus)) (c.of.ensures ∙ made)
    ∙ lines_back modulus value (s.numbered c.args.cofactors.now) c.requires.over (lines_plain pairs c.requires.plain)

pub returns-clause-fitting : goal.returns-clause-fitting
returns-clause-fitting g c =
    let modulus = g.R.Ring.modulus_of c.args.ring.now in
    let value = g.R.Ring.amount c.args.ring.now in
    let pairs = s.valued value (s.numbered c.args.cofactors.now) in
    let made = lines_ended value c.as_slice-cofactor-items.result.now c.args.cofactors.now c.loop-cofactor.cofactor-index c.loop-cofactor.lines (s.lines_of pairs) c.as_slice-cofactor-items.ensures c.loop-cofactor-test.false c.loop-cofactor.invariant.2 in
    λ equations fit. ap (s.are_fitting (reduced_by modulus) equations) (c.of.ensures ∙ made)
    ∙ lines_fit modulus value equations (s.numbered c.args.cofactors.now) (lines_plain pairs c.requires.plain) fit
