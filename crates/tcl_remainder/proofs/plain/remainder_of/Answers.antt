-- All terms have become summands, which are in order.
use Rattle.std.proofs.Common.{◌∙◌, ap}
use Rattle.tcl_goals.specs.Remainder as plain
use Rattle.tcl_ring.specs.Reduction.{reduced_by}
use Rattle.tcl_poly.specs.Polynomial as p
use Rattle.tcl_remainder.specs.Terms as t
use Rattle.tcl_remainder.proofs.RoundTrip.{summands_are, polynomial_back}
use Rattle.tcl_remainder.proofs.Turns.{terms_ended}
use Rattle.tcl_remainder.proofs.plain.remainder_of.Goals as goal

pub of-requires : goal.of-requires
of-requires g c =
    let reduced = reduced_by (g.R.Ring.modulus_of c.args.ring.now) in
    let value = g.R.Ring.amount c.args.ring.now in
    let whole = p.terms_of value c.args.poly.now in
    ap plain.is_remainder (terms_ended value c.terms-term-items.result.now c.args.poly.now c.loop-term.term-index c.loop-term.summands (t.summands_of whole) c.terms-term-items.ensures c.loop-term-test.false c.loop-term.invariant)
    ∙ summands_are reduced whole c.requires.over c.requires.plain

pub returns-clause-summands : goal.returns-clause-summands
returns-clause-summands g c =
    let value = g.R.Ring.amount c.args.ring.now in
    let whole = p.terms_of value c.args.poly.now in
    c.of.ensures
    ∙ terms_ended value c.terms-term-items.result.now c.args.poly.now c.loop-term.term-index c.loop-term.summands (t.summands_of whole) c.terms-term-items.ensures c.loop-term-test.false c.loop-term.invariant

pub returns-clause-polynomial : goal.returns-clause-polynomial
returns-clause-polynomial g c =
    let reduced = reduced_by (g.R.Ring.modulus_of c.args.ring.now) in
    let value = g.R.Ring.amount c.args.ring.now in
    let whole = p.terms_of value c.args.poly.now in
    ap (t.polynomial_of reduced)
    (c.of.ensures ∙ terms_ended value c.terms-term-items.result.now c.args.poly.now c.loop-term.term-index c.loop-term.summands (t.summands_of whole) c.terms-term-items.ensures c.loop-term-test.false c.loop-term.invariant)
    ∙ polynomial_back reduced whole c.requires.over c.requires.plain
