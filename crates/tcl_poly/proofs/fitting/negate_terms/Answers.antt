-- A negation is as narrow as its coefficient, and is the product with -1.
use Rattle.std.proofs.Common.{◌≡◌, ◌≤◌, [], ◌++◌, drop, arith, neg_ℤ, unsigned_abs, ◌∙◌, ap}
use Rattle.std.proofs.lemmas.Int.{ints}
use Rattle.tcl_ring.specs.Reduction as r
use Rattle.tcl_poly.specs.Polynomial as p
use Rattle.tcl_poly.proofs.Norms.{narrower}
use Rattle.tcl_poly.proofs.TermLists.{coefficient_norm, negated_turn}
use Rattle.tcl_poly.proofs.fitting.negate_terms.Goals as goal

pub negation_of_element-coefficient-requires : goal.negation_of_element-coefficient-requires
negation_of_element-coefficient-requires g c =
    let m = g.R.Ring.modulus_of c.args.ring.now in let value = g.R.Ring.amount c.args.ring.now in
    let a = c.args.a.now in let t = c.term-item.result in
    narrower m (p.norm_of (p.terms_of value a)) (unsigned_abs (neg_ℤ (value t.1))) c.requires.fits
    (omega (arith, ints, coefficient_norm value a c.loop-term.term-index t c.term-item.is (omega (arith, c.loop-term-test.true))))

pub loop-term-preserved : goal.loop-term-preserved
loop-term-preserved g c =
    let m = g.R.Ring.modulus_of c.args.ring.now in let value = g.R.Ring.amount c.args.ring.now in
    let t = c.term-item.result in
    let done = p.terms_of value c.loop-term.row.items in
    let pushed : p.terms_of value c.push_term.new.terms.items ≡ done ++ p.front t.0 (r.reduced_by m (neg_ℤ (value t.1))) [] =
    c.in_ok-push_term.ensures
    ∙ ap (λ n. done ++ p.front n (value c.negation_of_element-coefficient.result) []) c.in_ok-copy.ensures
    ∙ ap (λ x. done ++ p.front t.0 x []) c.negation_of_element-coefficient.ensures in
    negated_turn (r.reduced_by m) value c.args.a.now c.loop-term.term-index t c.loop-term.row.items c.push_term.new.terms.items c.term-item.is (omega (arith, c.loop-term-test.true)) pushed ∙ c.loop-term.invariant
