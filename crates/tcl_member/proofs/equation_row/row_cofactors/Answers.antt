-- Each turn adds an opposite, and the equation's own cofactor comes last.
use Rattle.std.proofs.Common.{[], negsuc, ◌∙◌, ap, arith}
use Rattle.tcl_ring.specs.Reduction as r
use Rattle.tcl_poly.specs.Polynomial as p
use Rattle.tcl_reduce.specs.CofactorSum.{scaled_cofactors}
use Rattle.tcl_pivots.proofs.CofactorTurns.{valued}
use Rattle.tcl_member.proofs.CofactorTurns.{scaled_turn, scaled_end, row_end, held_at}
use Rattle.tcl_member.proofs.equation_row.row_cofactors.Goals as goal

pub negated-requires-clause-over : goal.negated-requires-clause-over
negated-requires-clause-over g c =
    let m = g.R.Ring.modulus_of c.args.ring.now in let value = g.R.Ring.amount c.args.ring.now in
    (held_at m value c.args.cofactors.now c.loop-cofactor.cofactor-index c.cofactor-item.result c.cofactor-item.is (omega (arith, c.loop-cofactor-test.true)) c.requires.held).0

pub negated-requires-clause-fits : goal.negated-requires-clause-fits
negated-requires-clause-fits g c =
    let m = g.R.Ring.modulus_of c.args.ring.now in let value = g.R.Ring.amount c.args.ring.now in
    (held_at m value c.args.cofactors.now c.loop-cofactor.cofactor-index c.cofactor-item.result c.cofactor-item.is (omega (arith, c.loop-cofactor-test.true)) c.requires.held).1

pub loop-cofactor-preserved : goal.loop-cofactor-preserved
loop-cofactor-preserved g c =
    let m = g.R.Ring.modulus_of c.args.ring.now in let value = g.R.Ring.amount c.args.ring.now in
    scaled_turn (r.reduced_by m) value ([], negsuc 0) c.args.cofactors.now c.loop-cofactor.cofactor-index c.cofactor-item.result (valued value c.loop-cofactor.opposites.items) (valued value c.push_some.new.cofactors.items) (p.terms_of value c.in_ok-opposite.opposite)
    (scaled_cofactors (r.reduced_by m) ([], negsuc 0) (valued value c.args.cofactors.now)) c.cofactor-item.is (omega (arith, c.loop-cofactor-test.true)) c.in_ok-opposite.ensures.negation c.in_ok-push_some.ensures c.loop-cofactor.invariant

pub returns : goal.returns
returns g c =
    let m = g.R.Ring.modulus_of c.args.ring.now in let value = g.R.Ring.amount c.args.ring.now in
    let all = scaled_end (r.reduced_by m) value ([], negsuc 0) c.args.cofactors.now c.loop-cofactor.cofactor-index (valued value c.loop-cofactor.opposites.items) (scaled_cofactors (r.reduced_by m) ([], negsuc 0) (valued value c.args.cofactors.now)) (omega (arith, c.loop-cofactor-test.false)) c.loop-cofactor.invariant in
    ap (valued value) c.from_vec.ensures
    ∙ row_end (r.reduced_by m) value c.args.number c.args.cofactors.now (valued value c.loop-cofactor.opposites.items) (valued value c.push_some-2.new.cofactors.items) (p.terms_of value c.in_ok-own.own) c.requires.before all c.in_ok-own.ensures c.in_ok-push_some-2.ensures
