-- The row is that of the definition, and sound; where plain reduction leaves nothing, nothing is added.
use Rattle.std.proofs.Common.{◌∙◌, sym, ap, subst}
use Rattle.tcl_ring.specs.Reduction as r
use Rattle.tcl_poly.specs.Polynomial as p
use Rattle.tcl_reduce.specs.Answer.{definitions_of, numbered}
use Rattle.tcl_reduce.specs.Remainder.{pairs_of}
use Rattle.tcl_reduce.specs.Reduction.{reduced_of}
use Rattle.tcl_reduce.specs.Row as search
use Rattle.tcl_pivots.specs.CofactorLists.{equations_of}
use Rattle.tcl_pivots.specs.RowState.{IsSound}
use Rattle.tcl_pivots.specs.Held.{rows_shown}
use Rattle.tcl_pivots.proofs.CofactorTurns.{valued}
use Rattle.tcl_member.proofs.Holding.{equation_shown}
use Rattle.tcl_member.proofs.Beginnings.{equation_is_over, equation_is_low, cofactors_before, cofactors_held, before_same, held_same, row_known, row_shows, some_terms, nothing_added}
use Rattle.tcl_member.proofs.equation_row.add_equation.Goals as goal

pub plain-requires-clause-polynomial : goal.plain-requires-clause-polynomial
plain-requires-clause-polynomial g c =
    let m = g.R.Ring.modulus_of c.args.ring.now in let value = g.R.Ring.amount c.args.ring.now in
    equation_is_over m value c.args.defs.now c.args.equations.now c.args.number c.index-equations-number.result c.requires.known c.index-equations-number.is c.requires.number

pub plain-requires-clause-degree : goal.plain-requires-clause-degree
plain-requires-clause-degree g c =
    let m = g.R.Ring.modulus_of c.args.ring.now in let value = g.R.Ring.amount c.args.ring.now in
    equation_is_low m value c.args.defs.now c.args.equations.now c.args.number c.index-equations-number.result c.requires.known c.index-equations-number.is c.requires.number

pub returns-in-Zero-clause-added : goal.returns-in-Zero-clause-added
returns-in-Zero-clause-added g c =
    let m = g.R.Ring.modulus_of c.args.ring.now in let value = g.R.Ring.amount c.args.ring.now in
    let es = equations_of value c.args.equations.now in let xs = definitions_of value c.args.defs.now in
    let same = equation_shown value c.args.equations.now c.args.number c.index-equations-number.result c.index-equations-number.is c.requires.number in
    let rows = rows_shown value c.args.rows.now in
    sym (ap (λ o. search.add_plain m es c.args.number c.args.place o rows) (ap (reduced_of m xs) same ∙ c.in-Zero.ensures.plain) ∙ nothing_added m es c.args.number c.args.place (pairs_of value (numbered c.in-Zero.field-0)) c.in-Zero.field-1 rows)

pub row_cofactors-requires-clause-before : goal.row_cofactors-requires-clause-before
row_cofactors-requires-clause-before g c =
    let m = g.R.Ring.modulus_of c.args.ring.now in let value = g.R.Ring.amount c.args.ring.now in
    before_same c.args.number _ _ c.as_slice.ensures
    (cofactors_before m (g.met.R.Ring.is_modulus c.args.ring.now) value c.args.defs.now c.args.equations.now c.args.number c.index-equations-number.result (p.terms_of value c.in-Rest.rest) (numbered c.in-Rest.cofactors) c.in-Rest.field-2 c.requires.known c.index-equations-number.is c.requires.number c.requires.after c.in-Rest.ensures.plain.1)

pub row_cofactors-requires-clause-held : goal.row_cofactors-requires-clause-held
row_cofactors-requires-clause-held g c =
    let m = g.R.Ring.modulus_of c.args.ring.now in let value = g.R.Ring.amount c.args.ring.now in
    held_same m value _ _ c.as_slice.ensures
    (cofactors_held m (g.met.R.Ring.is_modulus c.args.ring.now) value c.args.defs.now c.args.equations.now c.args.number c.index-equations-number.result (p.terms_of value c.in-Rest.rest) (numbered c.in-Rest.cofactors) c.in-Rest.field-2 c.requires.known c.index-equations-number.is c.requires.number c.in-Rest.ensures.plain.1)

pub add_row-requires-clause-row : goal.add_row-requires-clause-row
add_row-requires-clause-row g c =
    let m = g.R.Ring.modulus_of c.args.ring.now in let value = g.R.Ring.amount c.args.ring.now in
    let es = equations_of value c.args.equations.now in
    let rest = p.terms_of value c.in-Rest.rest in
    let cs = pairs_of value (numbered c.in-Rest.cofactors) in
    let sound = row_known m (g.met.R.Ring.is_modulus c.args.ring.now) value c.args.defs.now c.args.equations.now c.args.number c.args.place c.index-equations-number.result rest cs c.in-Rest.field-2 c.requires.known c.index-equations-number.is c.requires.number c.requires.after c.in-Rest.ensures.plain.1 (some_terms value c.in-Rest.rest c.in-Rest.ensures.plain.0) in
    subst (IsSound m es) (sym (row_shows (r.reduced_by m) c.args.number c.args.place rest (valued value c.in_ok-cofactors-in-Rest.cofactors) (valued value c.as_slice.result.now) cs (c.in_ok-cofactors-in-Rest.ensures) (ap (valued value) c.as_slice.ensures))) sound
