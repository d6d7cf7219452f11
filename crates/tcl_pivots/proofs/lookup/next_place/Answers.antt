-- The leading monomials between stand neither before nor after the term that was found.
use Rattle.std.proofs.Common.{◌≡◌, ◌<◌, length, get_or, sym, ◌∙◌, ap, subst, arith, List}
use Rattle.std.proofs.lemmas.List.{get_or_default}
use Rattle.tcl_ring.specs.Reduction as r
use Rattle.tcl_poly.specs.Monomial.{Monomial}
use Rattle.tcl_poly.specs.Polynomial.{terms_of}
use Rattle.tcl_pivots.specs.Held.{pivots_shown, pivots_at, front_monomial}
use Rattle.tcl_pivots.specs.Lookup.{AreGreater, AreAbsent}
use Rattle.tcl_pivots.proofs.Coefficients.{over_list}
use Rattle.tcl_pivots.proofs.HeldRows.{place_below}
use Rattle.tcl_pivots.proofs.AddedRows.{kept_terms, terms_at}
use Rattle.tcl_pivots.proofs.Passing.{order_descends, order_pivots, order_reads, places_length, absent_between, absent_after}
use Rattle.tcl_pivots.proofs.lookup.next_place.Goals as goal

pub first_not_above-at-requires-clause-some : goal.first_not_above-at-requires-clause-some
first_not_above-at-requires-clause-some g c =
    let m = g.R.Ring.modulus_of c.args.ring.now in let value = g.R.Ring.amount c.args.ring.now in
    let places = c.args.order.now in let ps = c.args.kept.now in let k = get_or places c.args.from 0 in
    let below = place_below value ps places c.args.from k (get_or_default places c.args.from 0 k c.requires.from) c.requires.from c.requires.sorted in
    terms_at ps k c.index-kept-order.result c.index-kept-order.is below (kept_terms (r.reduced_by m) value ps c.requires.kept)

pub returns-then-at-list-clause-absent : goal.returns-then-at-list-clause-absent
returns-then-at-list-clause-absent g c =
    let m = g.R.Ring.modulus_of c.args.ring.now in let value = g.R.Ring.amount c.args.ring.now in
    let modulus = g.met.R.Ring.is_modulus c.args.ring.now in
    let places = c.args.order.now in let ps = c.args.kept.now in let shown = pivots_shown value ps in
    let qs = pivots_at shown places in let a = c.args.a.now in let k = get_or places c.args.from 0 in
    let below = place_below value ps places c.args.from k (get_or_default places c.args.from 0 k c.requires.from) c.requires.from c.requires.sorted in
    let reads = order_reads value ps places c.args.from c.index-kept-order.result c.requires.from c.index-kept-order.is below in
    let P : Monomial → Type 0 = λ z. AreGreater a z c.first_not_above-at.result in
    let long = places_length shown places in
    let ended : c.first_not_above-at.result ≡ length a = c.if-at-list.true ∙ ap length c.terms-list.ensures in
    absent_after (r.reduced_by m) value a qs c.args.from (length places) c.first_not_above-at.result c.requires.over
    (order_pivots m shown places c.requires.kept c.requires.sorted) (order_descends m modulus shown places c.requires.kept c.requires.sorted)
    (omega (arith, c.requires.from, long)) (omega (arith, long)) ended (subst P (sym reads) c.first_not_above-at.ensures.greater)

pub returns-clause-absent : goal.returns-clause-absent
returns-clause-absent g c =
    let m = g.R.Ring.modulus_of c.args.ring.now in let value = g.R.Ring.amount c.args.ring.now in
    let modulus = g.met.R.Ring.is_modulus c.args.ring.now in
    let places = c.args.order.now in let ps = c.args.kept.now in let shown = pivots_shown value ps in
    let qs = pivots_at shown places in let a = c.args.a.now in let list = c.terms-list.result.now in let k = get_or places c.args.from 0 in
    let below = place_below value ps places c.args.from k (get_or_default places c.args.from 0 k c.requires.from) c.requires.from c.requires.sorted in
    let reads = order_reads value ps places c.args.from c.index-kept-order.result c.requires.from c.index-kept-order.is below in
    let at = c.first_not_above-at.result in
    let long = places_length shown places in
    let same : length list ≡ length a = ap length c.terms-list.ensures in
    let inside : at < length list = omega (arith, c.first_not_above-at.ensures.last, c.if-at-list.false, same) in
    let P : Monomial → Type 0 = λ z. AreGreater list z at in
    let Q : List (Monomial × _) → Type 0 = λ z. AreGreater z (front_monomial c.index-kept-order.result.row.poly) at in
    let S : List (Monomial × _) → Type 0 = λ z. AreAbsent (terms_of value z) qs c.args.from c.place_not_above.result in
    subst S c.terms-list.ensures
    (absent_between (r.reduced_by m) value list qs c.args.from c.place_not_above.result at c.index-list-at.result (over_list (r.reduced_by m) value list a c.terms-list.ensures c.requires.over)
    (order_pivots m shown places c.requires.kept c.requires.sorted) (order_descends m modulus shown places c.requires.kept c.requires.sorted)
    (omega (arith, c.requires.from, long)) (omega (arith, c.place_not_above.ensures.last, long)) c.index-list-at.is inside
    (subst P (sym reads) (subst Q (sym c.terms-list.ensures) c.first_not_above-at.ensures.greater)) c.place_not_above.ensures.above)
