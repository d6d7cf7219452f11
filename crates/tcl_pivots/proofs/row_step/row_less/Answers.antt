-- The constant stands for the opposite of the quotient, and what cannot be held is wide.
use Rattle.std.proofs.Common.{length, true, false, refl, sym, ap, subst}
use Rattle.tcl_ring.specs.Reduction as r
use Rattle.tcl_ring.proofs.Reductions.{is_reduction}
use Rattle.tcl_poly.specs.Polynomial as p
use Rattle.tcl_pivots.specs.CofactorLists.{equations_of}
use Rattle.tcl_reduce.specs.Row.{leading}
use Rattle.tcl_reduce.specs.Row as rows
use Rattle.tcl_pivots.specs.RowState.{row_shown, pivot_shown, IsSound}
use Rattle.tcl_pivots.proofs.CofactorTurns.{valued}
use Rattle.tcl_pivots.proofs.MadeCofactors.{below_same, sound_below, ordered_same, sound_ordered, step_poly, step_cofactors, nothing_counted, constant_is, step_width, step_row}
use Rattle.tcl_pivots.proofs.Soundness.{less_sound}
use Rattle.tcl_pivots.proofs.row_step.row_less.Goals as goal

pub make-requires-clause-ordered : goal.make-requires-clause-ordered
make-requires-clause-ordered g c =
    let m = g.R.Ring.modulus_of c.args.ring.now in let value = g.R.Ring.amount c.args.ring.now in
    ordered_same (r.reduced_by m) value _ _ c.as_slice.ensures (sound_ordered m (equations_of value c.args.equations.now) (row_shown value c.args.a.now) c.requires.row)

pub make-requires-clause-row_ordered : goal.make-requires-clause-row_ordered
make-requires-clause-row_ordered g c =
    let m = g.R.Ring.modulus_of c.args.ring.now in let value = g.R.Ring.amount c.args.ring.now in
    sound_ordered m (equations_of value c.args.equations.now) (row_shown value c.args.pivot.now.row) c.requires.pivot

pub make-requires-clause-below : goal.make-requires-clause-below
make-requires-clause-below g c =
    let m = g.R.Ring.modulus_of c.args.ring.now in let value = g.R.Ring.amount c.args.ring.now in
    below_same (length c.args.equations.now) _ _ c.as_slice.ensures (sound_below m value c.args.equations.now c.args.a.now.cofactors c.requires.row.shown.fit)

pub make-requires-clause-row_below : goal.make-requires-clause-row_below
make-requires-clause-row_below g c =
    let m = g.R.Ring.modulus_of c.args.ring.now in let value = g.R.Ring.amount c.args.ring.now in
    sound_below m value c.args.equations.now c.args.pivot.now.row.cofactors c.requires.pivot.shown.fit

pub make-requires-clause-poly_fits : goal.make-requires-clause-poly_fits
make-requires-clause-poly_fits g c n e w =
    let m = g.R.Ring.modulus_of c.args.ring.now in let value = g.R.Ring.amount c.args.ring.now in
    let ring = is_reduction m (g.met.R.Ring.is_modulus c.args.ring.now) in
    let es = equations_of value c.args.equations.now in
    let a = row_shown value c.args.a.now in let q = pivot_shown value c.args.pivot.now in
    let k = value c.opposite_quotient-c.result in
    let same = constant_is m ring k (value c.args.coefficient.now) (p.coefficient a.poly (leading q.row.poly)) q.inverse c.opposite_quotient-c.ensures c.requires.coefficient in
    step_poly m ring es a q k n (valued value c.as_slice.result.now) c.requires.equations c.requires.row c.requires.pivot same (ap (valued value) c.as_slice.ensures) (nothing_counted n e) w

pub make-requires-clause-cofactors_fit : goal.make-requires-clause-cofactors_fit
make-requires-clause-cofactors_fit g c n e w =
    let m = g.R.Ring.modulus_of c.args.ring.now in let value = g.R.Ring.amount c.args.ring.now in
    let ring = is_reduction m (g.met.R.Ring.is_modulus c.args.ring.now) in
    let es = equations_of value c.args.equations.now in
    let a = row_shown value c.args.a.now in let q = pivot_shown value c.args.pivot.now in
    let k = value c.opposite_quotient-c.result in
    let same = constant_is m ring k (value c.args.coefficient.now) (p.coefficient a.poly (leading q.row.poly)) q.inverse c.opposite_quotient-c.ensures c.requires.coefficient in
    step_cofactors m ring es a q k n (valued value c.as_slice.result.now) c.requires.equations c.requires.row c.requires.pivot same (ap (valued value) c.as_slice.ensures) (nothing_counted n e) w

pub returns-in-Some-clause-wide : goal.returns-in-Some-clause-wide
returns-in-Some-clause-wide g c =
    let m = g.R.Ring.modulus_of c.args.ring.now in let value = g.R.Ring.amount c.args.ring.now in
    let ring = is_reduction m (g.met.R.Ring.is_modulus c.args.ring.now) in
    let es = equations_of value c.args.equations.now in
    let a = row_shown value c.args.a.now in let q = pivot_shown value c.args.pivot.now in
    let k = value c.opposite_quotient-c.result in
    let same = constant_is m ring k (value c.args.coefficient.now) (p.coefficient a.poly (leading q.row.poly)) q.inverse c.opposite_quotient-c.ensures c.requires.coefficient in
    let narrow = rw c.in-Some.is at (c.in_ok-made.ensures.wide 0 refl) in
    step_width m ring es a q k (valued value c.as_slice.result.now) false same (ap (valued value) c.as_slice.ensures) narrow

pub returns-in-Some-clause-less : goal.returns-in-Some-clause-less
returns-in-Some-clause-less g c =
    let m = g.R.Ring.modulus_of c.args.ring.now in let value = g.R.Ring.amount c.args.ring.now in
    let ring = is_reduction m (g.met.R.Ring.is_modulus c.args.ring.now) in
    let es = equations_of value c.args.equations.now in
    let a = row_shown value c.args.a.now in let q = pivot_shown value c.args.pivot.now in
    let k = value c.opposite_quotient-c.result in
    let own = valued value c.as_slice.result.now in let from = ap (valued value) c.as_slice.ensures in
    let same = constant_is m ring k (value c.args.coefficient.now) (p.coefficient a.poly (leading q.row.poly)) q.inverse c.opposite_quotient-c.ensures c.requires.coefficient in
    let narrow = rw c.in-Some.is at (c.in_ok-made.ensures.wide 0 refl) in
    let made = rw c.in-Some.is at c.in_ok-made.ensures.made in
    let is = step_row m ring a q k own (valued value c.in-Some.made.cofactors) (p.terms_of value c.in-Some.made.poly) same from made.0 made.1 in
    let P : rows.Row → Type 0 = λ z. IsSound m es z in
    (is, subst P (sym is) (less_sound m ring es a q c.requires.equations c.requires.row c.requires.pivot (step_width m ring es a q k own false same from narrow)))

pub returns-in-None-clause-wide : goal.returns-in-None-clause-wide
returns-in-None-clause-wide g c =
    let m = g.R.Ring.modulus_of c.args.ring.now in let value = g.R.Ring.amount c.args.ring.now in
    let ring = is_reduction m (g.met.R.Ring.is_modulus c.args.ring.now) in
    let es = equations_of value c.args.equations.now in
    let a = row_shown value c.args.a.now in let q = pivot_shown value c.args.pivot.now in
    let k = value c.opposite_quotient-c.result in
    let same = constant_is m ring k (value c.args.coefficient.now) (p.coefficient a.poly (leading q.row.poly)) q.inverse c.opposite_quotient-c.ensures c.requires.coefficient in
    let wide = rw c.in-None.is at (c.in_ok-made.ensures.wide 0 refl) in
    step_width m ring es a q k (valued value c.as_slice.result.now) true same (ap (valued value) c.as_slice.ensures) wide
