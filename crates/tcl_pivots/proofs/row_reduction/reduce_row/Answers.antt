-- Each turn reduces by the row at the next place.
use Rattle.std.proofs.Common.{◌+◌, drop, get_or, sym, ap, arith, Some, None, ◌∙◌}
use Rattle.std.proofs.lemmas.List.{get_or_default}
use Rattle.tcl_reduce.specs.Row as rows
use Rattle.tcl_pivots.specs.CofactorLists.{equations_of}
use Rattle.tcl_pivots.specs.RowState.{row_shown}
use Rattle.tcl_pivots.specs.Held.{pivots_shown, pivots_at}
use Rattle.tcl_pivots.proofs.HeldRows.{place_below, sound_at, pivot_at, row_turn, row_end, rows_whole}
use Rattle.tcl_pivots.proofs.Passing.{row_skip}
use Rattle.tcl_pivots.proofs.row_reduction.reduce_row.Goals as goal

pub loop-i-init : goal.loop-i-init
loop-i-init g c =
    let m = g.R.Ring.modulus_of c.args.ring.now in let value = g.R.Ring.amount c.args.ring.now in
    let es = equations_of value c.args.equations.now in
    let ps = pivots_shown value c.args.kept.now in (
      c.seek-start.ensures.last,
      c.requires.row,
      sym (row_skip m es ps c.args.order.now (row_shown value c.args.a) 0 c.seek-start.result c.seek-start.ensures.first c.seek-start.ensures.last c.seek-start.ensures.absent)
          ∙ ap (λ qs. rows.row_by m es qs (row_shown value c.args.a)) (rows_whole ps c.args.order.now c.requires.sorted),
    )

pub bounds-kept-order : goal.bounds-kept-order
bounds-kept-order g c =
    let value = g.R.Ring.amount c.args.ring.now in
    let order = c.args.order.now in let i = c.loop-i.i in let k = get_or order i 0 in
    place_below value c.args.kept.now order i k (get_or_default order i 0 k c.loop-i-test.true) c.loop-i-test.true c.requires.sorted

pub reduce_by_pivot-requires-clause-row : goal.reduce_by_pivot-requires-clause-row
reduce_by_pivot-requires-clause-row g c = c.loop-i.invariant.1

pub reduce_by_pivot-requires-clause-pivot : goal.reduce_by_pivot-requires-clause-pivot
reduce_by_pivot-requires-clause-pivot g c =
    let m = g.R.Ring.modulus_of c.args.ring.now in let value = g.R.Ring.amount c.args.ring.now in
    let es = equations_of value c.args.equations.now in
    let order = c.args.order.now in let i = c.loop-i.i in let k = get_or order i 0 in
    let below = place_below value c.args.kept.now order i k (get_or_default order i 0 k c.loop-i-test.true) c.loop-i-test.true c.requires.sorted in
    sound_at m es value c.args.kept.now k c.index-kept-order.result c.index-kept-order.is below c.requires.sound

pub reduce_by_pivot-requires-clause-kept : goal.reduce_by_pivot-requires-clause-kept
reduce_by_pivot-requires-clause-kept g c =
    let m = g.R.Ring.modulus_of c.args.ring.now in let value = g.R.Ring.amount c.args.ring.now in
    let es = equations_of value c.args.equations.now in
    let order = c.args.order.now in let i = c.loop-i.i in let k = get_or order i 0 in
    let below = place_below value c.args.kept.now order i k (get_or_default order i 0 k c.loop-i-test.true) c.loop-i-test.true c.requires.sorted in
    pivot_at m es value c.args.kept.now k c.index-kept-order.result c.index-kept-order.is below c.requires.sound

pub returns-in-None-clause-reduced : goal.returns-in-None-clause-reduced
returns-in-None-clause-reduced g c =
    let m = g.R.Ring.modulus_of c.args.ring.now in let value = g.R.Ring.amount c.args.ring.now in
    let es = equations_of value c.args.equations.now in let ps = pivots_shown value c.args.kept.now in
    let order = c.args.order.now in let i = c.loop-i.i in let k = get_or order i 0 in
    let e = get_or_default order i 0 k c.loop-i-test.true in
    let below = place_below value c.args.kept.now order i k e c.loop-i-test.true c.requires.sorted in
    let rest = pivots_at ps (drop (i + 1) order) in
    let further = rw c.in-None.is at (c.in_ok-next.ensures.further rest) in
    sym (row_turn m es value c.args.kept.now order i k c.index-kept-order.result (row_shown value c.loop-i.a) None (rows.row_by m es (rows.by_leading ps) (row_shown value c.args.a)) e c.loop-i-test.true c.index-kept-order.is below further c.loop-i.invariant.2)

pub loop-i-preserved : goal.loop-i-preserved
loop-i-preserved g c =
    let m = g.R.Ring.modulus_of c.args.ring.now in let value = g.R.Ring.amount c.args.ring.now in
    let es = equations_of value c.args.equations.now in let ps = pivots_shown value c.args.kept.now in
    let order = c.args.order.now in let i = c.loop-i.i in let k = get_or order i 0 in
    let e = get_or_default order i 0 k c.loop-i-test.true in
    let below = place_below value c.args.kept.now order i k e c.loop-i-test.true c.requires.sorted in
    let rest = pivots_at ps (drop (i + 1) order) in
    let further = rw c.in-Some.is at (c.in_ok-next.ensures.further rest) in
    let sound = rw c.in-Some.is at c.in_ok-next.ensures.sound in (
      c.seek-following.ensures.last,
      sound,
      sym (row_skip m es ps order (row_shown value c.in-Some.next) (i + 1) c.seek-following.result c.seek-following.ensures.first c.seek-following.ensures.last c.seek-following.ensures.absent)
          ∙ row_turn m es value c.args.kept.now order i k c.index-kept-order.result (row_shown value c.loop-i.a) (Some c.in-Some.next) (rows.row_by m es (rows.by_leading ps) (row_shown value c.args.a)) e c.loop-i-test.true c.index-kept-order.is below further c.loop-i.invariant.2,
    )

pub returns-clause-reduced : goal.returns-clause-reduced
returns-clause-reduced g c =
    let m = g.R.Ring.modulus_of c.args.ring.now in let value = g.R.Ring.amount c.args.ring.now in
    let es = equations_of value c.args.equations.now in let ps = pivots_shown value c.args.kept.now in
    row_end m es ps c.args.order.now c.loop-i.i (row_shown value c.loop-i.a) (rows.row_by m es (rows.by_leading ps) (row_shown value c.args.a)) (omega (arith, c.loop-i-test.false)) c.loop-i.invariant.2

pub returns-clause-sound : goal.returns-clause-sound
returns-clause-sound g c = c.loop-i.invariant.1
