-- A greater term in the middle shows that all before it are greater.
use Rattle.std.proofs.Common.{◌+◌, ◌-◌, ◌/◌, ◌<◌, length, arith}
use Rattle.tcl_ring.specs.Reduction as r
use Rattle.tcl_pivots.proofs.Coefficients.{more_greater, over_list}
use Rattle.tcl_pivots.proofs.lookup.term_not_above.Goals as goal

pub loop-low-preserved-in-Greater : goal.loop-low-preserved-in-Greater
loop-low-preserved-in-Greater g c =
    let m = g.R.Ring.modulus_of c.args.ring.now in let value = g.R.Ring.amount c.args.ring.now in
    let list = c.terms-list.result.now in
    let middle = c.loop-low.low + (c.loop-low.high - c.loop-low.low) / 2 in
    let inside : middle < c.loop-low.high = omega (arith, c.loop-low-test.true) in
    let below : middle < length list = omega (arith, inside, c.loop-low.invariant.1) in (
      omega (arith, inside),
      c.loop-low.invariant.1,
      more_greater (r.reduced_by m) value list c.args.mono.now middle c.index-list-middle.result c.index-list-middle.is below (over_list (r.reduced_by m) value list c.args.a.now c.terms-list.ensures c.requires.over) c.degree-degree.ensures.monomial c.in-Greater.ensures,
    )
