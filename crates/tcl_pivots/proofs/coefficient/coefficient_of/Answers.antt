-- The terms are halved.
use Rattle.std.proofs.Common.{◌+◌, ◌-◌, ◌/◌, ◌<◌, length, sym, ◌∙◌, ap, arith}
use Rattle.tcl_ring.specs.Reduction as r
use Rattle.tcl_poly.specs.Polynomial as p
use Rattle.tcl_pivots.proofs.Coefficients.{more_greater, more_less, absent, read_coefficient, over_list}
use Rattle.tcl_pivots.proofs.coefficient.coefficient_of.Goals as goal

pub loop-low-preserved-in-Greater : goal.loop-low-preserved-in-Greater
loop-low-preserved-in-Greater g c =
    let m = g.R.Ring.modulus_of c.args.ring.now in let value = g.R.Ring.amount c.args.ring.now in
    let list = c.terms-list.result.now in
    let middle = c.loop-low.low + (c.loop-low.high - c.loop-low.low) / 2 in
    let inside : middle < c.loop-low.high = omega (arith, c.loop-low-test.true) in
    let below : middle < length list = omega (arith, inside, c.loop-low.invariant.1) in (
      omega (arith, inside),
      c.loop-low.invariant.1,
      more_greater (r.reduced_by m) value list c.args.mono.now middle c.index-list-middle.result c.index-list-middle.is below (over_list (r.reduced_by m) value list c.args.a.now c.terms-list.ensures c.requires) c.degree-degree.ensures.monomial c.in-Greater.ensures,
      c.loop-low.invariant.3,
    )

pub returns-in-Equal : goal.returns-in-Equal
returns-in-Equal g c =
    let m = g.R.Ring.modulus_of c.args.ring.now in let value = g.R.Ring.amount c.args.ring.now in
    let list = c.terms-list.result.now in
    let middle = c.loop-low.low + (c.loop-low.high - c.loop-low.low) / 2 in
    let inside : middle < c.loop-low.high = omega (arith, c.loop-low-test.true) in
    let below : middle < length list = omega (arith, inside, c.loop-low.invariant.1) in
    let read = read_coefficient (r.reduced_by m) value list c.args.mono.now middle c.index-list-middle.result c.index-list-middle.is below (over_list (r.reduced_by m) value list c.args.a.now c.terms-list.ensures c.requires) c.in-Equal.ensures in
    (read.0 ∙ ap (λ z. p.coefficient (p.terms_of value z) c.args.mono.now) c.terms-list.ensures, read.1)

pub loop-low-preserved : goal.loop-low-preserved
loop-low-preserved g c =
    let m = g.R.Ring.modulus_of c.args.ring.now in let value = g.R.Ring.amount c.args.ring.now in
    let list = c.terms-list.result.now in
    let middle = c.loop-low.low + (c.loop-low.high - c.loop-low.low) / 2 in
    let inside : middle < c.loop-low.high = omega (arith, c.loop-low-test.true) in
    let below : middle < length list = omega (arith, inside, c.loop-low.invariant.1) in (
      omega arith,
      omega (arith, below),
      c.loop-low.invariant.2,
      more_less (r.reduced_by m) value list c.args.mono.now middle c.index-list-middle.result c.index-list-middle.is below (over_list (r.reduced_by m) value list c.args.a.now c.terms-list.ensures c.requires) c.degree-degree.ensures.monomial c.in-Less.ensures,
    )

pub returns : goal.returns
returns g c =
    let m = g.R.Ring.modulus_of c.args.ring.now in let value = g.R.Ring.amount c.args.ring.now in
    let list = c.terms-list.result.now in
    ap (λ z. p.coefficient (p.terms_of value z) c.args.mono.now) (sym c.terms-list.ensures)
    ∙ absent (r.reduced_by m) value list c.args.mono.now c.loop-low.low (over_list (r.reduced_by m) value list c.args.a.now c.terms-list.ensures c.requires) c.degree-degree.ensures.monomial c.loop-low.invariant.2
    (λ j b s d. c.loop-low.invariant.3 j (omega (arith, b, c.loop-low-test.false)) s d)
