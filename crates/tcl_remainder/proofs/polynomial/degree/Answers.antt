-- The first summand that is not 0 in the ring has the degree.
use Rattle.std.proofs.Common.{◌≡◌, ◌∙◌, arith, pos}
use Rattle.std.proofs.lemmas.Int.{ints}
use Rattle.tcl_ring.specs.Reduction.{reduced_by}
use Rattle.tcl_poly.specs.Polynomial as p
use Rattle.tcl_remainder.specs.Terms as t
use Rattle.tcl_remainder.proofs.Turns.{degree_here, degree_further, degree_read, same_value, summands_after}
use Rattle.tcl_remainder.proofs.polynomial.degree.Goals as goal

pub returns-then-value-ne0 : goal.returns-then-value-ne0
returns-then-value-ne0 g c =
    let reduced = reduced_by (g.R.Ring.modulus_of c.args.ring.now) in
    let s = c.summand-item.result in
    let whole = p.degree_of (t.polynomial_of reduced c.args.remainder.now) in
    let read = same_value c.value.result (g.R.Ring.amount c.args.ring.now c.coefficient.result) (reduced s.coefficient) c.value.ensures c.coefficient.ensures in
    let here = degree_here reduced c.as_slice-summands.result.now c.loop-summand.summand-index s whole c.summand-item.is c.loop-summand-test.true
    (λ e. absurd (c.if-value-ne0.true (omega (arith, ints, e, read)))) c.loop-summand.invariant.1 in
    degree_read c.as_slice.result.now s.powers c.degree_of_powers.result whole c.as_slice.ensures c.degree_of_powers.ensures here

pub loop-summand-preserved : goal.loop-summand-preserved
loop-summand-preserved g c =
    let reduced = reduced_by (g.R.Ring.modulus_of c.args.ring.now) in
    let summands = c.as_slice-summands.result.now in
    let k = c.loop-summand.summand-index in
    let s = c.summand-item.result in
    let whole = p.degree_of (t.polynomial_of reduced c.args.remainder.now) in
    let read = same_value c.value.result (g.R.Ring.amount c.args.ring.now c.coefficient.result) (reduced s.coefficient) c.value.ensures c.coefficient.ensures in
    let none : c.value.result ≡ pos 0 = omega (arith, ints, c.if-value-ne0.false, c.value.type_inv) in (
      summands_after summands k s c.summand-item.is c.loop-summand-test.true c.loop-summand.invariant.0,
      degree_further reduced summands k s whole c.summand-item.is c.loop-summand-test.true (read ∙ none) c.loop-summand.invariant.1,
    )
