-- A row in the middle with a greater leading monomial shows that all before it have greater ones.
use Rattle.std.proofs.Common.{◌+◌, ◌-◌, ◌/◌, ◌<◌, length, get_or, sym, ◌∙◌, ap, arith}
use Rattle.std.proofs.lemmas.List.{get_or_default}
use Rattle.tcl_ring.specs.Reduction as r
use Rattle.tcl_poly.specs.Monomial.{order}
use Rattle.tcl_poly.proofs.TermMerging.{greater_from}
use Rattle.tcl_pivots.specs.Kept.{lead}
use Rattle.tcl_pivots.specs.Held.{pivots_shown, no_pivot, pivots_at}
use Rattle.tcl_pivots.proofs.HeldRows.{place_below}
use Rattle.tcl_pivots.proofs.AddedRows.{kept_terms, terms_at}
use Rattle.tcl_pivots.proofs.Passing.{order_descends, order_pivots, lead_monomial, order_reads, more_above, places_length}
use Rattle.tcl_pivots.proofs.lookup.place_not_above.Goals as goal

pub compare_front-requires : goal.compare_front-requires
compare_front-requires g c =
    let m = g.R.Ring.modulus_of c.args.ring.now in let value = g.R.Ring.amount c.args.ring.now in
    let places = c.args.order.now in let ps = c.args.kept.now in
    let middle = c.loop-low.low + (c.loop-low.high - c.loop-low.low) / 2 in
    let inside : middle < length places = omega (arith, c.loop-low-test.true, c.loop-low.invariant.2) in
    let k = get_or places middle 0 in
    let below = place_below value ps places middle k (get_or_default places middle 0 k inside) inside c.requires.sorted in
    terms_at ps k c.index-kept-order.result c.index-kept-order.is below (kept_terms (r.reduced_by m) value ps c.requires.kept)

pub loop-low-preserved-in-Greater : goal.loop-low-preserved-in-Greater
loop-low-preserved-in-Greater g c =
    let m = g.R.Ring.modulus_of c.args.ring.now in let value = g.R.Ring.amount c.args.ring.now in
    let modulus = g.met.R.Ring.is_modulus c.args.ring.now in
    let places = c.args.order.now in let ps = c.args.kept.now in let shown = pivots_shown value ps in
    let qs = pivots_at shown places in
    let middle = c.loop-low.low + (c.loop-low.high - c.loop-low.low) / 2 in
    let under : middle < c.loop-low.high = omega (arith, c.loop-low-test.true) in
    let inside : middle < length places = omega (arith, under, c.loop-low.invariant.2) in
    let k = get_or places middle 0 in
    let below = place_below value ps places middle k (get_or_default places middle 0 k inside) inside c.requires.sorted in
    let within : middle < length qs = omega (arith, inside, places_length shown places) in
    let reads = order_reads value ps places middle c.index-kept-order.result inside c.index-kept-order.is below in
    let own = lead_monomial (r.reduced_by m) qs middle within (order_pivots m shown places c.requires.kept c.requires.sorted) in
    let above = greater_from (lead (get_or qs middle no_pivot)) c.args.mono.now own c.degree-degree.ensures.monomial (c.in-Greater.ensures ∙ ap (λ z. order z c.args.mono.now) (sym reads)) in (
      omega (arith, c.loop-low.invariant.0, c.loop-low.invariant.1),
      omega (arith, under),
      c.loop-low.invariant.2,
      more_above qs c.args.mono.now c.args.from middle within (order_descends m modulus shown places c.requires.kept c.requires.sorted) above,
    )
