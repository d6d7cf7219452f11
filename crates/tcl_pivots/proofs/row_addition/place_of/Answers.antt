-- The rows before the first place are passed by halves; each turn passes a row whose leading monomial is not less.
use Rattle.std.proofs.Common.{get_or, arith, Less, Equal}
use Rattle.std.proofs.lemmas.List.{get_or_default}
use Rattle.tcl_ring.specs.Reduction as r
use Rattle.tcl_pivots.specs.Held.{pivots_shown, front_monomial}
use Rattle.tcl_pivots.proofs.HeldRows.{place_below}
use Rattle.tcl_pivots.proofs.AddedRows.{kept_terms, terms_at, passed_by, found_place, last_place, less_passes, equal_passes}
use Rattle.tcl_pivots.proofs.Placing.{places_passed}
use Rattle.tcl_pivots.proofs.row_addition.place_of.Goals as goal

pub loop-i-init : goal.loop-i-init
loop-i-init g c =
    let m = g.R.Ring.modulus_of c.args.ring.now in let value = g.R.Ring.amount c.args.ring.now in
    let above = c.row_not_above-start.ensures in (
      above.last,
      λ q h. places_passed m (pivots_shown value c.args.kept.now) c.args.order.now q (front_monomial c.args.a.now) c.row_not_above-start.result c.requires.kept c.requires.sorted above.last above.monomial above.above h,
    )

pub bounds-kept-order : goal.bounds-kept-order
bounds-kept-order g c =
    let value = g.R.Ring.amount c.args.ring.now in
    let order = c.args.order.now in let i = c.loop-i.i in let k = get_or order i 0 in
    place_below value c.args.kept.now order i k (get_or_default order i 0 k c.loop-i-test.true) c.loop-i-test.true c.requires.sorted

pub compare_leading-requires-clause-second : goal.compare_leading-requires-clause-second
compare_leading-requires-clause-second g c =
    let m = g.R.Ring.modulus_of c.args.ring.now in let value = g.R.Ring.amount c.args.ring.now in
    let order = c.args.order.now in let i = c.loop-i.i in let k = get_or order i 0 in
    let below = place_below value c.args.kept.now order i k (get_or_default order i 0 k c.loop-i-test.true) c.loop-i-test.true c.requires.sorted in
    terms_at c.args.kept.now k c.index-kept-order.result c.index-kept-order.is below (kept_terms (r.reduced_by m) value c.args.kept.now c.requires.kept)

pub loop-i-preserved-in-Less : goal.loop-i-preserved-in-Less
loop-i-preserved-in-Less g c =
    let value = g.R.Ring.amount c.args.ring.now in
    let order = c.args.order.now in let i = c.loop-i.i in let k = get_or order i 0 in
    let e = get_or_default order i 0 k c.loop-i-test.true in
    let below = place_below value c.args.kept.now order i k e c.loop-i-test.true c.requires.sorted in (
      omega (arith, c.loop-i-test.true),
      λ q h. passed_by value c.args.kept.now order i k c.index-kept-order.result q c.args.a.now Less e c.loop-i-test.true c.index-kept-order.is below c.in-Less.ensures less_passes h (c.loop-i.invariant.1 q h),
    )

pub loop-i-preserved : goal.loop-i-preserved
loop-i-preserved g c =
    let value = g.R.Ring.amount c.args.ring.now in
    let order = c.args.order.now in let i = c.loop-i.i in let k = get_or order i 0 in
    let e = get_or_default order i 0 k c.loop-i-test.true in
    let below = place_below value c.args.kept.now order i k e c.loop-i-test.true c.requires.sorted in (
      omega (arith, c.loop-i-test.true),
      λ q h. passed_by value c.args.kept.now order i k c.index-kept-order.result q c.args.a.now Equal e c.loop-i-test.true c.index-kept-order.is below c.in-Equal.ensures equal_passes h (c.loop-i.invariant.1 q h),
    )

pub returns-in-Greater-clause-place : goal.returns-in-Greater-clause-place
returns-in-Greater-clause-place g c q h =
    let value = g.R.Ring.amount c.args.ring.now in
    let order = c.args.order.now in let i = c.loop-i.i in let k = get_or order i 0 in
    let e = get_or_default order i 0 k c.loop-i-test.true in
    let below = place_below value c.args.kept.now order i k e c.loop-i-test.true c.requires.sorted in
    found_place value c.args.kept.now order i k c.index-kept-order.result q c.args.a.now e c.loop-i-test.true c.index-kept-order.is below c.in-Greater.ensures h (c.loop-i.invariant.1 q h)

pub returns-clause-place : goal.returns-clause-place
returns-clause-place g c q h =
    last_place (pivots_shown (g.R.Ring.amount c.args.ring.now) c.args.kept.now) c.args.order.now c.loop-i.i q (omega (arith, c.loop-i-test.false)) (c.loop-i.invariant.1 q h)
