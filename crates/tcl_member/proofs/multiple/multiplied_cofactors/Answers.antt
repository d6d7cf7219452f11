-- Each turn adds a product.
use Rattle.std.proofs.Common.{pos, arith, subst, ◌∙◌}
use Rattle.tcl_ring.specs.Reduction as r
use Rattle.tcl_ring.proofs.Reductions.{is_reduction}
use Rattle.tcl_poly.specs.Polynomial as p
use Rattle.tcl_reduce.specs.CofactorSum.{scaled_cofactors}
use Rattle.tcl_pivots.proofs.CofactorTurns.{valued}
use Rattle.tcl_member.proofs.CofactorTurns.{scaled_turn, multiplied_at}
use Rattle.tcl_member.proofs.Holding.{factor_product}
use Rattle.tcl_member.proofs.multiple.multiplied_cofactors.Goals as goal

pub product-requires-clause-second : goal.product-requires-clause-second
product-requires-clause-second g c =
    let m = g.R.Ring.modulus_of c.args.ring.now in let value = g.R.Ring.amount c.args.ring.now in
    (multiplied_at m value c.args.factor.now c.args.cofactors.now c.loop-cofactor.cofactor-index c.cofactor-item.result c.cofactor-item.is (omega (arith, c.loop-cofactor-test.true)) c.requires.held).0

pub product-requires-clause-degrees : goal.product-requires-clause-degrees
product-requires-clause-degrees g c =
    let m = g.R.Ring.modulus_of c.args.ring.now in let value = g.R.Ring.amount c.args.ring.now in
    (multiplied_at m value c.args.factor.now c.args.cofactors.now c.loop-cofactor.cofactor-index c.cofactor-item.result c.cofactor-item.is (omega (arith, c.loop-cofactor-test.true)) c.requires.held).1

pub product-requires-clause-fits : goal.product-requires-clause-fits
product-requires-clause-fits g c =
    let m = g.R.Ring.modulus_of c.args.ring.now in let value = g.R.Ring.amount c.args.ring.now in
    (multiplied_at m value c.args.factor.now c.args.cofactors.now c.loop-cofactor.cofactor-index c.cofactor-item.result c.cofactor-item.is (omega (arith, c.loop-cofactor-test.true)) c.requires.held).2

pub loop-cofactor-preserved : goal.loop-cofactor-preserved
loop-cofactor-preserved g c n is =
    let m = g.R.Ring.modulus_of c.args.ring.now in let value = g.R.Ring.amount c.args.ring.now in
    let ring = is_reduction m (g.met.R.Ring.is_modulus c.args.ring.now) in
    let x = c.cofactor-item.result in
    let over = (multiplied_at m value c.args.factor.now c.args.cofactors.now c.loop-cofactor.cofactor-index x c.cofactor-item.is (omega (arith, c.loop-cofactor-test.true)) c.requires.held).0 in
    let monomial = (subst (p.IsPolynomial (r.reduced_by m)) is c.requires.factor).0 in
    scaled_turn (r.reduced_by m) value (n, r.reduced_by m (pos 1)) c.args.cofactors.now c.loop-cofactor.cofactor-index x (valued value c.loop-cofactor.products.items) (valued value c.push_some.new.cofactors.items) (p.terms_of value c.in_ok-poly.poly)
    (scaled_cofactors (r.reduced_by m) (n, r.reduced_by m (pos 1)) (valued value c.args.cofactors.now)) c.cofactor-item.is (omega (arith, c.loop-cofactor-test.true))
    (c.in_ok-poly.ensures.product ∙ factor_product (r.reduced_by m) ring value n c.args.factor.now (p.terms_of value x.poly) is monomial over) c.in_ok-push_some.ensures (c.loop-cofactor.invariant n is)
