-- The constants stand for the quotient and its opposite, and what cannot be held is wide.
use Rattle.std.proofs.Common.{◌^◌, length, min, true, false, sym, ◌∙◌, ap, subst}
use Rattle.tcl_ring.specs.Reduction as r
use Rattle.tcl_ring.proofs.Reductions.{is_reduction}
use Rattle.tcl_poly.specs.Polynomial as p
use Rattle.tcl_pivots.specs.CofactorLists.{equations_of}
use Rattle.tcl_reduce.specs.Row.{leading}
use Rattle.tcl_reduce.specs.Row as rows
use Rattle.tcl_reduce.specs.Membership as search
use Rattle.tcl_pivots.specs.RowState.{row_shown, pivot_shown}
use Rattle.tcl_pivots.specs.TargetState.{target_shown, IsSoundTarget}
use Rattle.tcl_pivots.proofs.CofactorTurns.{valued}
use Rattle.tcl_pivots.proofs.MadeCofactors.{below_same, sound_below, ordered_same, sound_ordered}
use Rattle.tcl_pivots.proofs.Soundness.{fit_ordered}
use Rattle.tcl_pivots.proofs.TargetSteps.{target_sound}
use Rattle.tcl_pivots.proofs.TargetTurns.{quotient_is, opposite_is, aim_poly, aim_cofactors, aim_width, aim_made}
use Rattle.tcl_pivots.proofs.target_step.target_less.Goals as goal

pub make-requires-clause-ordered : goal.make-requires-clause-ordered
make-requires-clause-ordered g c =
    let m = g.R.Ring.modulus_of c.args.ring.now in let value = g.R.Ring.amount c.args.ring.now in
    let es = equations_of value c.args.equations.now in
    ordered_same (r.reduced_by m) value _ _ c.as_slice.ensures
    (fit_ordered m es 0 (length es) (valued value c.args.f.now.cofactors) c.requires.target.shown.fit c.requires.target.shown.rise)

pub make-requires-clause-row_ordered : goal.make-requires-clause-row_ordered
make-requires-clause-row_ordered g c =
    let m = g.R.Ring.modulus_of c.args.ring.now in let value = g.R.Ring.amount c.args.ring.now in
    sound_ordered m (equations_of value c.args.equations.now) (row_shown value c.args.pivot.now.row) c.requires.pivot

pub make-requires-clause-below : goal.make-requires-clause-below
make-requires-clause-below g c =
    let m = g.R.Ring.modulus_of c.args.ring.now in let value = g.R.Ring.amount c.args.ring.now in
    below_same (length c.args.equations.now) _ _ c.as_slice.ensures (sound_below m value c.args.equations.now c.args.f.now.cofactors c.requires.target.shown.fit)

pub make-requires-clause-row_below : goal.make-requires-clause-row_below
make-requires-clause-row_below g c =
    let m = g.R.Ring.modulus_of c.args.ring.now in let value = g.R.Ring.amount c.args.ring.now in
    sound_below m value c.args.equations.now c.args.pivot.now.row.cofactors c.requires.pivot.shown.fit

pub make-requires-clause-poly_fits : goal.make-requires-clause-poly_fits
make-requires-clause-poly_fits g c n e w =
    let m = g.R.Ring.modulus_of c.args.ring.now in let value = g.R.Ring.amount c.args.ring.now in
    let ring = is_reduction m (g.met.R.Ring.is_modulus c.args.ring.now) in
    let es = equations_of value c.args.equations.now in let claim = p.terms_of value c.args.claim.now in
    let f = target_shown value false c.args.f.now in let q = pivot_shown value c.args.pivot.now in
    let own = valued value c.as_slice.result.now in let from = ap (valued value) c.as_slice.ensures in
    let d = value c.product_of-quotient.result in let k = value c.opposite_of-opposite.result in
    let other = quotient_is (r.reduced_by m) d (value c.args.coefficient.now) (p.coefficient f.poly (leading q.row.poly)) q.inverse c.product_of-quotient.ensures c.requires.coefficient in
    let same = opposite_is (r.reduced_by m) ring k d (rows.quotient_at (r.reduced_by m) f.poly q) c.opposite_of-opposite.ensures other in
    let norm = c.norm_of_terms-norm.ensures ∙ ap (λ z. min (p.norm_of (p.terms_of value z)) (2 ^ 127)) c.terms.ensures in
    aim_poly m ring es claim f q k d n own c.requires.equations c.requires.claim c.requires.target c.requires.pivot same other from (sym e ∙ norm) w

pub make-requires-clause-cofactors_fit : goal.make-requires-clause-cofactors_fit
make-requires-clause-cofactors_fit g c n e w =
    let m = g.R.Ring.modulus_of c.args.ring.now in let value = g.R.Ring.amount c.args.ring.now in
    let ring = is_reduction m (g.met.R.Ring.is_modulus c.args.ring.now) in
    let es = equations_of value c.args.equations.now in let claim = p.terms_of value c.args.claim.now in
    let f = target_shown value false c.args.f.now in let q = pivot_shown value c.args.pivot.now in
    let own = valued value c.as_slice.result.now in let from = ap (valued value) c.as_slice.ensures in
    let d = value c.product_of-quotient.result in let k = value c.opposite_of-opposite.result in
    let other = quotient_is (r.reduced_by m) d (value c.args.coefficient.now) (p.coefficient f.poly (leading q.row.poly)) q.inverse c.product_of-quotient.ensures c.requires.coefficient in
    let same = opposite_is (r.reduced_by m) ring k d (rows.quotient_at (r.reduced_by m) f.poly q) c.opposite_of-opposite.ensures other in
    let norm = c.norm_of_terms-norm.ensures ∙ ap (λ z. min (p.norm_of (p.terms_of value z)) (2 ^ 127)) c.terms.ensures in
    aim_cofactors m es claim f q d n own c.requires.equations c.requires.target c.requires.pivot other from w

pub returns-in-Some-clause-wide : goal.returns-in-Some-clause-wide
returns-in-Some-clause-wide g c =
    let m = g.R.Ring.modulus_of c.args.ring.now in let value = g.R.Ring.amount c.args.ring.now in
    let ring = is_reduction m (g.met.R.Ring.is_modulus c.args.ring.now) in
    let es = equations_of value c.args.equations.now in let claim = p.terms_of value c.args.claim.now in
    let f = target_shown value false c.args.f.now in let q = pivot_shown value c.args.pivot.now in
    let own = valued value c.as_slice.result.now in let from = ap (valued value) c.as_slice.ensures in
    let d = value c.product_of-quotient.result in let k = value c.opposite_of-opposite.result in
    let other = quotient_is (r.reduced_by m) d (value c.args.coefficient.now) (p.coefficient f.poly (leading q.row.poly)) q.inverse c.product_of-quotient.ensures c.requires.coefficient in
    let same = opposite_is (r.reduced_by m) ring k d (rows.quotient_at (r.reduced_by m) f.poly q) c.opposite_of-opposite.ensures other in
    let norm = c.norm_of_terms-norm.ensures ∙ ap (λ z. min (p.norm_of (p.terms_of value z)) (2 ^ 127)) c.terms.ensures in
    aim_width m es f q d (p.norm_of claim) own false other from (rw c.in-Some.is at (c.in_ok-made.ensures.wide (p.norm_of claim) norm))

pub returns-in-Some-clause-less : goal.returns-in-Some-clause-less
returns-in-Some-clause-less g c =
    let m = g.R.Ring.modulus_of c.args.ring.now in let value = g.R.Ring.amount c.args.ring.now in
    let ring = is_reduction m (g.met.R.Ring.is_modulus c.args.ring.now) in
    let es = equations_of value c.args.equations.now in let claim = p.terms_of value c.args.claim.now in
    let f = target_shown value false c.args.f.now in let q = pivot_shown value c.args.pivot.now in
    let own = valued value c.as_slice.result.now in let from = ap (valued value) c.as_slice.ensures in
    let d = value c.product_of-quotient.result in let k = value c.opposite_of-opposite.result in
    let other = quotient_is (r.reduced_by m) d (value c.args.coefficient.now) (p.coefficient f.poly (leading q.row.poly)) q.inverse c.product_of-quotient.ensures c.requires.coefficient in
    let same = opposite_is (r.reduced_by m) ring k d (rows.quotient_at (r.reduced_by m) f.poly q) c.opposite_of-opposite.ensures other in
    let norm = c.norm_of_terms-norm.ensures ∙ ap (λ z. min (p.norm_of (p.terms_of value z)) (2 ^ 127)) c.terms.ensures in
    let narrow = aim_width m es f q d (p.norm_of claim) own false other from (rw c.in-Some.is at (c.in_ok-made.ensures.wide (p.norm_of claim) norm)) in
    let made = rw c.in-Some.is at c.in_ok-made.ensures.made in
    let is = aim_made m ring f q k d own (valued value c.in-Some.made.cofactors) (p.terms_of value c.in-Some.made.poly) same other from made.0 made.1 in
    let P : search.Target → Type 0 = λ z. IsSoundTarget m es claim z in
    (is, subst P (sym is) (target_sound m ring es (p.norm_of claim) claim f q c.requires.equations c.requires.claim c.requires.target c.requires.pivot narrow))

pub returns-in-None-clause-wide : goal.returns-in-None-clause-wide
returns-in-None-clause-wide g c =
    let m = g.R.Ring.modulus_of c.args.ring.now in let value = g.R.Ring.amount c.args.ring.now in
    let ring = is_reduction m (g.met.R.Ring.is_modulus c.args.ring.now) in
    let es = equations_of value c.args.equations.now in let claim = p.terms_of value c.args.claim.now in
    let f = target_shown value false c.args.f.now in let q = pivot_shown value c.args.pivot.now in
    let own = valued value c.as_slice.result.now in let from = ap (valued value) c.as_slice.ensures in
    let d = value c.product_of-quotient.result in let k = value c.opposite_of-opposite.result in
    let other = quotient_is (r.reduced_by m) d (value c.args.coefficient.now) (p.coefficient f.poly (leading q.row.poly)) q.inverse c.product_of-quotient.ensures c.requires.coefficient in
    let same = opposite_is (r.reduced_by m) ring k d (rows.quotient_at (r.reduced_by m) f.poly q) c.opposite_of-opposite.ensures other in
    let norm = c.norm_of_terms-norm.ensures ∙ ap (λ z. min (p.norm_of (p.terms_of value z)) (2 ^ 127)) c.terms.ensures in
    aim_width m es f q d (p.norm_of claim) own true other from (rw c.in-None.is at (c.in_ok-made.ensures.wide (p.norm_of claim) norm))
