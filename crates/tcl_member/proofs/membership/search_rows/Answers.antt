-- The products are those of copies of the kept rows, over the unknowns that occur.
use Rattle.std.proofs.Common.{◌≡◌, [], refl, sym, ◌∙◌, ap, subst}
use Rattle.tcl_poly.specs.Polynomial as p
use Rattle.tcl_poly.proofs.TermLists.{degree_of_values}
use Rattle.tcl_reduce.specs.Answer.{numbered}
use Rattle.tcl_reduce.specs.Remainder.{pairs_of}
use Rattle.tcl_reduce.specs.Multiple.{unknowns_of, row_unknowns, multiples_to}
use Rattle.tcl_pivots.specs.CofactorLists.{equations_of}
use Rattle.tcl_pivots.specs.Held.{pivots_shown, rows_shown}
use Rattle.tcl_member.specs.declared.search.Search.{Search}
use Rattle.tcl_member.specs.Course.{keys_in, AreKeys}
use Rattle.tcl_member.proofs.KeyLists.{unknowns_rise, row_unknowns_rise}
use Rattle.tcl_member.proofs.PivotLists.{held_tried}
use Rattle.tcl_member.proofs.Endings.{ended_of}
use Rattle.tcl_member.proofs.membership.search_rows.Goals as goal

pub run-requires-clause-pivots : goal.run-requires-clause-pivots
run-requires-clause-pivots g c =
    let m = g.R.Ring.modulus_of c.args.ring.now in let value = g.R.Ring.amount c.args.ring.now in
    held_tried m (equations_of value c.args.equations.now) value c.args.rows c.as_slice-2.result.now (c.as_slice-2.ensures.value ∙ c.in_ok-pivots.ensures ∙ c.kept.ensures) c.requires.held

pub run-requires-clause-keys : goal.run-requires-clause-keys
run-requires-clause-keys g c =
    let value = g.R.Ring.amount c.args.ring.now in
    let ps = pivots_shown value c.as_slice.result.now in let rest = p.terms_of value c.args.rest in
    let keys = ap keys_in c.as_slice-3.ensures.value ∙ c.in_ok-unknowns.ensures value in
    subst (AreKeys 0) (sym keys) (unknowns_rise rest (row_unknowns ps []) (row_unknowns_rise ps [] tt))

pub returns-clause-ended : goal.returns-clause-ended
returns-clause-ended g c =
    let m = g.R.Ring.modulus_of c.args.ring.now in let value = g.R.Ring.amount c.args.ring.now in
    let claim = p.terms_of value c.args.claim.now in
    let rest = p.terms_of value c.args.rest in
    let us = keys_in c.as_slice-3.result.now in let ps = pivots_shown value c.as_slice-2.result.now in
    let limit = c.degree-limit.result in
    let old : Search g.row.R.Denot g.row.R-Elem.Denot = record { rows = c.args.rows; target = record { poly = c.args.rest; cofactors = c.args.cofactors }; tried = 0; left = 0 } in
    let kept = pivots_shown value c.args.rows.kept in
    let pivots : ps ≡ kept = ap (pivots_shown value) (c.as_slice-2.ensures.value ∙ c.in_ok-pivots.ensures ∙ c.kept.ensures) in
    let first = ap (pivots_shown value) (c.as_slice.ensures.value ∙ c.in_ok-pivots.ensures ∙ c.kept.ensures) in
    let keys : us ≡ unknowns_of rest (row_unknowns kept []) = ap keys_in c.as_slice-3.ensures.value ∙ c.in_ok-unknowns.ensures value ∙ ap (λ z. unknowns_of rest (row_unknowns z [])) first in
    let degree : limit ≡ p.degree_of rest = c.degree-limit.ensures ∙ sym (degree_of_values value c.args.rest) in
    ended_of m value c.args.equations.now claim c.args.place c.args.budget (multiples_to us limit ps limit) old c.run.new.self (rows_shown value c.args.rows) rest (pairs_of value (numbered c.args.cofactors))
    (g.P.Port.polls c.args.port.now) (g.P.Port.polls c.run.new.port) (g.P.Port.cancels c.args.port.now) (g.P.Port.cancels c.run.new.port) c.in_ok-turn.turn c.in_ok-left.left c.into_member.result c.in_ok-turn.ensures.run
    (λ i. multiples_to (keys i) (degree i) (pivots i) (degree i)) refl refl (ap (p.terms_of value) c.in_ok-left.ensures) (c.into_member.ensures.answer value) c.into_member.ensures.end
