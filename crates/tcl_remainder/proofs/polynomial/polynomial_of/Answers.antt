-- The terms are over the ring, and none has too great a degree.
use Rattle.std.proofs.Common.{◌≡◌, ◌-◌, ◌^◌, ◌++◌, sym, ◌∙◌, ap, subst, arith}
use Rattle.tcl_goals.specs.Remainder as plain
use Rattle.tcl_ring.specs.Reduction.{reduced_by}
use Rattle.tcl_ring.proofs.Reductions.{is_reduction}
use Rattle.tcl_poly.specs.Polynomial as p
use Rattle.tcl_poly.proofs.Degrees.{IsWithin, within_more, degree_within}
use Rattle.tcl_remainder.specs.Terms as t
use Rattle.tcl_remainder.proofs.Orders.{polynomial_is}
use Rattle.tcl_remainder.proofs.Turns.{summands_after, summand_within, after_within, summand_more, summands_ended}
use Rattle.tcl_remainder.proofs.polynomial.polynomial_of.Goals as goal

pub loop-summand-init : goal.loop-summand-init
loop-summand-init g c =
    let modulus = g.R.Ring.modulus_of c.args.ring.now in
    let reduced = reduced_by modulus in
    let whole = c.args.remainder.now in
    let same : c.as_slice-summands.result.now ≡ whole = c.as_slice-summands.ensures ∙ c.summands.ensures.summands in
    let over = polynomial_is reduced (is_reduction modulus (g.met.R.Ring.is_modulus c.args.ring.now)) whole c.summands.ensures.order in
    let P : p.Polynomial → Type 0 = λ x. IsWithin (2 ^ 32 - 1) x in
    let within = within_more (p.degree_of (t.polynomial_of reduced whole)) (2 ^ 32 - 1) (t.polynomial_of reduced whole) (omega (arith, c.requires)) (degree_within reduced (t.polynomial_of reduced whole) over) in (
      ap plain.is_remainder same ∙ c.summands.ensures.order,
      subst P (sym (ap (t.polynomial_of reduced) same)) within,
      ap (λ x. p.terms_of (g.R.Ring.amount c.args.ring.now) x ++ t.polynomial_of reduced c.as_slice-summands.result.now) c.zero-poly.ensures ∙ ap (t.polynomial_of reduced) same,
    )

pub push_summand-requires-clause-narrow : goal.push_summand-requires-clause-narrow
push_summand-requires-clause-narrow g c =
    let reduced = reduced_by (g.R.Ring.modulus_of c.args.ring.now) in
    omega (arith, summand_within reduced c.as_slice-summands.result.now c.loop-summand.summand-index (2 ^ 32 - 1) c.summand-item.result c.summand-item.is c.loop-summand-test.true c.loop-summand.invariant.1)

pub loop-summand-preserved : goal.loop-summand-preserved
loop-summand-preserved g c =
    let reduced = reduced_by (g.R.Ring.modulus_of c.args.ring.now) in
    let value = g.R.Ring.amount c.args.ring.now in
    let summands = c.as_slice-summands.result.now in
    let k = c.loop-summand.summand-index in
    let s = c.summand-item.result in (
      summands_after summands k s c.summand-item.is c.loop-summand-test.true c.loop-summand.invariant.0,
      after_within reduced summands k (2 ^ 32 - 1) s c.summand-item.is c.loop-summand-test.true c.loop-summand.invariant.1,
      summand_more reduced summands k s (p.terms_of value c.loop-summand.poly) (p.terms_of value c.push_summand.new.poly) (t.polynomial_of reduced c.args.remainder.now) c.summand-item.is c.loop-summand-test.true
          c.in_ok-push_summand.ensures c.loop-summand.invariant.2,
    )

pub returns-clause-over : goal.returns-clause-over
returns-clause-over g c =
    let modulus = g.R.Ring.modulus_of c.args.ring.now in
    let reduced = reduced_by modulus in
    let whole = c.args.remainder.now in
    let made = summands_ended reduced c.as_slice-summands.result.now c.loop-summand.summand-index (p.terms_of (g.R.Ring.amount c.args.ring.now) c.loop-summand.poly) (t.polynomial_of reduced whole) c.loop-summand-test.false c.loop-summand.invariant.2 in
    let P : p.Polynomial → Type 0 = λ x. p.IsPolynomial reduced x in
    subst P (sym made) (polynomial_is reduced (is_reduction modulus (g.met.R.Ring.is_modulus c.args.ring.now)) whole c.summands.ensures.order)
