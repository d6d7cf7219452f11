-- The degrees decide; the rest is kept by a monomial.
use Rattle.std.proofs.Common.{true, false, length, arith, sym, ◌∙◌, ap, subst}
use Rattle.tcl_ring.specs.Reduction as r
use Rattle.tcl_ring.proofs.Reductions.{is_reduction}
use Rattle.tcl_poly.specs.Polynomial as p
use Rattle.tcl_reduce.specs.Answer.{numbered}
use Rattle.tcl_pivots.specs.CofactorLists.{equations_of}
use Rattle.tcl_pivots.specs.RowState.{row_shown, IsSound}
use Rattle.tcl_pivots.proofs.CofactorTurns.{valued}
use Rattle.tcl_pivots.proofs.MadeCofactors.{below_same}
use Rattle.tcl_member.specs.Multiplied.{AreMultiplied}
use Rattle.tcl_member.proofs.Holding.{row_light, factor_over, factor_light, factor_product, are_multiplied, fit_below}
use Rattle.tcl_member.proofs.CofactorTurns.{deep_read}
use Rattle.tcl_member.proofs.Multiples.{product_deep, product_narrow, product_sound}
use Rattle.tcl_member.proofs.Beginnings.{some_terms, product_shows}
use Rattle.tcl_member.proofs.multiple.multiplied.Goals as goal

pub are_deep-requires : goal.are_deep-requires
are_deep-requires g c =
    let m = g.R.Ring.modulus_of c.args.ring.now in let value = g.R.Ring.amount c.args.ring.now in
    below_same (length c.args.equations.now) _ _ c.as_slice.ensures (fit_below m value c.args.equations.now (numbered c.args.row.now.cofactors) c.requires.row.shown.fit)

pub returns-then-are_deep-clause-wide : goal.returns-then-are_deep-clause-wide
returns-then-are_deep-clause-wide g c =
    let m = g.R.Ring.modulus_of c.args.ring.now in let value = g.R.Ring.amount c.args.ring.now in
    let ring = is_reduction m (g.met.R.Ring.is_modulus c.args.ring.now) in
    let es = equations_of value c.args.equations.now in
    product_deep m ring es c.args.monomial.now (row_shown value c.args.row.now) c.requires.row
    (deep_read value es _ _ c.as_slice.result.now c.args.row.now.cofactors c.are_deep.result true c.as_slice.ensures c.degree.ensures.degree (c.are_deep.ensures value) c.if-are_deep.true)

pub product-requires-clause-first : goal.product-requires-clause-first
product-requires-clause-first g c =
    let m = g.R.Ring.modulus_of c.args.ring.now in let value = g.R.Ring.amount c.args.ring.now in
    let ring = is_reduction m (g.met.R.Ring.is_modulus c.args.ring.now) in
    factor_over m ring value c.args.monomial.now c.in_ok-factor.factor (p.terms_of value c.args.row.now.poly) c.in_ok-factor.ensures c.degree.ensures.monomial c.requires.row.over (some_terms value c.args.row.now.poly c.requires.some)

pub product-requires-clause-fits : goal.product-requires-clause-fits
product-requires-clause-fits g c =
    let m = g.R.Ring.modulus_of c.args.ring.now in let value = g.R.Ring.amount c.args.ring.now in
    let ring = is_reduction m (g.met.R.Ring.is_modulus c.args.ring.now) in
    factor_light m value c.args.monomial.now c.in_ok-factor.factor (p.terms_of value c.args.row.now.poly) c.in_ok-factor.ensures (row_light m ring (equations_of value c.args.equations.now) (row_shown value c.args.row.now) c.requires.equations c.requires.row)

pub multiplied_cofactors-requires-clause-held : goal.multiplied_cofactors-requires-clause-held
multiplied_cofactors-requires-clause-held g c =
    let m = g.R.Ring.modulus_of c.args.ring.now in let value = g.R.Ring.amount c.args.ring.now in
    let es = equations_of value c.args.equations.now in
    let a = c.args.row.now in
    let deep = deep_read value es _ _ c.as_slice.result.now a.cofactors c.are_deep.result false c.as_slice.ensures c.degree.ensures.degree (c.are_deep.ensures value) c.if-are_deep.false in
    subst (λ z. AreMultiplied m value c.in_ok-factor.factor (numbered z)) (sym c.as_slice-2.ensures)
    (are_multiplied m value es c.args.monomial.now c.in_ok-factor.factor (numbered a.cofactors) c.requires.equations c.in_ok-factor.ensures (omega (arith, c.requires.degree)) c.requires.row.shown.fit c.requires.row.counted c.requires.row.shown.narrow deep)

pub returns-clause-wide : goal.returns-clause-wide
returns-clause-wide g c =
    let m = g.R.Ring.modulus_of c.args.ring.now in let value = g.R.Ring.amount c.args.ring.now in
    let ring = is_reduction m (g.met.R.Ring.is_modulus c.args.ring.now) in
    let es = equations_of value c.args.equations.now in
    product_narrow m ring es c.args.monomial.now (row_shown value c.args.row.now) c.requires.row
    (deep_read value es _ _ c.as_slice.result.now c.args.row.now.cofactors c.are_deep.result false c.as_slice.ensures c.degree.ensures.degree (c.are_deep.ensures value) c.if-are_deep.false)

pub returns-clause-multiplied : goal.returns-clause-multiplied
returns-clause-multiplied g c =
    let m = g.R.Ring.modulus_of c.args.ring.now in let value = g.R.Ring.amount c.args.ring.now in
    let ring = is_reduction m (g.met.R.Ring.is_modulus c.args.ring.now) in
    let es = equations_of value c.args.equations.now in
    let a = row_shown value c.args.row.now in let n = c.args.monomial.now in
    let deep = deep_read value es _ _ c.as_slice.result.now c.args.row.now.cofactors c.are_deep.result false c.as_slice.ensures c.degree.ensures.degree (c.are_deep.ensures value) c.if-are_deep.false in
    let same = product_shows (r.reduced_by m) n a (p.terms_of value c.in_ok-poly.poly) (valued value c.in_ok-cofactors.cofactors) (valued value c.as_slice-2.result.now)
    (c.in_ok-poly.ensures.product ∙ factor_product (r.reduced_by m) ring value n c.in_ok-factor.factor a.poly c.in_ok-factor.ensures c.degree.ensures.monomial c.requires.row.over)
    (c.in_ok-cofactors.ensures n c.in_ok-factor.ensures) (ap (valued value) c.as_slice-2.ensures) in
    (same, subst (IsSound m es) (sym same) (product_sound m ring es n a c.requires.equations c.degree.ensures.monomial c.requires.row deep))
