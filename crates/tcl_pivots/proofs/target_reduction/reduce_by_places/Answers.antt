-- Each turn takes the row at the next place.
use Rattle.std.proofs.Common.{◌+◌, drop, get_or, sym, ◌∙◌, arith, true, false}
use Rattle.std.proofs.lemmas.List.{get_or_default}
use Rattle.tcl_poly.specs.Polynomial as p
use Rattle.tcl_reduce.specs.Row as rows
use Rattle.tcl_reduce.specs.Membership as s
use Rattle.tcl_pivots.specs.CofactorLists.{equations_of}
use Rattle.tcl_pivots.specs.TargetState.{target_shown}
use Rattle.tcl_pivots.specs.Held.{pivots_shown, pivots_at}
use Rattle.tcl_pivots.proofs.HeldRows.{place_below, pivot_at, sound_at}
use Rattle.tcl_pivots.proofs.TargetReducing.{target_start, target_turn}
use Rattle.tcl_pivots.proofs.Passing.{target_skip}
use Rattle.tcl_pivots.proofs.target_reduction.reduce_by_places.Goals as goal

pub loop-i-init : goal.loop-i-init
loop-i-init g c =
    let m = g.R.Ring.modulus_of c.args.ring.now in let value = g.R.Ring.amount c.args.ring.now in
    let es = equations_of value c.args.equations.now in let ps = pivots_shown value c.args.kept.now in
    let norm = p.norm_of (p.terms_of value c.args.claim.now) in
    let order = c.args.order.now in let f = target_shown value false c.args.f in (
      c.seek-start.ensures.last,
      c.requires.target,
      sym (target_skip m es norm ps order f 0 c.seek-start.result c.seek-start.ensures.first c.seek-start.ensures.last c.seek-start.ensures.absent)
          ∙ target_start m es norm ps order f c.requires.sorted,
    )

pub step_by_pivot-requires-clause-pivot : goal.step_by_pivot-requires-clause-pivot
step_by_pivot-requires-clause-pivot g c =
    let m = g.R.Ring.modulus_of c.args.ring.now in let value = g.R.Ring.amount c.args.ring.now in
    let es = equations_of value c.args.equations.now in
    let order = c.args.order.now in let i = c.loop-i.i in let k = get_or order i 0 in
    let below = place_below value c.args.kept.now order i k (get_or_default order i 0 k c.loop-i-test.true) c.loop-i-test.true c.requires.sorted in
    sound_at m es value c.args.kept.now k c.index-kept-order.result c.index-kept-order.is below c.requires.sound

pub step_by_pivot-requires-clause-kept : goal.step_by_pivot-requires-clause-kept
step_by_pivot-requires-clause-kept g c =
    let m = g.R.Ring.modulus_of c.args.ring.now in let value = g.R.Ring.amount c.args.ring.now in
    let es = equations_of value c.args.equations.now in
    let order = c.args.order.now in let i = c.loop-i.i in let k = get_or order i 0 in
    let below = place_below value c.args.kept.now order i k (get_or_default order i 0 k c.loop-i-test.true) c.loop-i-test.true c.requires.sorted in
    pivot_at m es value c.args.kept.now k c.index-kept-order.result c.index-kept-order.is below c.requires.sound

pub loop-i-preserved-in-Same : goal.loop-i-preserved-in-Same
loop-i-preserved-in-Same g c =
    let m = g.R.Ring.modulus_of c.args.ring.now in let value = g.R.Ring.amount c.args.ring.now in
    let es = equations_of value c.args.equations.now in let ps = pivots_shown value c.args.kept.now in
    let norm = p.norm_of (p.terms_of value c.args.claim.now) in
    let order = c.args.order.now in let i = c.loop-i.i in let k = get_or order i 0 in
    let e = get_or_default order i 0 k c.loop-i-test.true in
    let below = place_below value c.args.kept.now order i k e c.loop-i-test.true c.requires.sorted in
    let further = rw c.in-Same.is at (c.in_ok-step_by_pivot.ensures.further c.loop-i.noted (pivots_at ps (drop (i + 1) order))) in
    let so_far = target_shown value c.loop-i.noted c.loop-i.f in
    let whole = s.target_by m es norm (rows.by_leading ps) (target_shown value false c.args.f) in (
      c.seek-i.ensures.last,
      c.loop-i.invariant.1,
      sym (target_skip m es norm ps order so_far (i + 1) c.seek-i.result c.seek-i.ensures.first c.seek-i.ensures.last c.seek-i.ensures.absent)
          ∙ target_turn m es norm value c.args.kept.now order i k c.index-kept-order.result so_far so_far whole e c.loop-i-test.true c.index-kept-order.is below further c.loop-i.invariant.2,
    )

pub loop-i-preserved-in-Wide : goal.loop-i-preserved-in-Wide
loop-i-preserved-in-Wide g c =
    let m = g.R.Ring.modulus_of c.args.ring.now in let value = g.R.Ring.amount c.args.ring.now in
    let es = equations_of value c.args.equations.now in let ps = pivots_shown value c.args.kept.now in
    let norm = p.norm_of (p.terms_of value c.args.claim.now) in
    let order = c.args.order.now in let i = c.loop-i.i in let k = get_or order i 0 in
    let e = get_or_default order i 0 k c.loop-i-test.true in
    let below = place_below value c.args.kept.now order i k e c.loop-i-test.true c.requires.sorted in
    let further = rw c.in-Wide.is at (c.in_ok-step_by_pivot.ensures.further c.loop-i.noted (pivots_at ps (drop (i + 1) order))) in
    let so_far = target_shown value c.loop-i.noted c.loop-i.f in
    let whole = s.target_by m es norm (rows.by_leading ps) (target_shown value false c.args.f) in (
      c.seek-i-in-Wide.ensures.last,
      c.loop-i.invariant.1,
      sym (target_skip m es norm ps order (target_shown value true c.loop-i.f) (i + 1) c.seek-i-in-Wide.result c.seek-i-in-Wide.ensures.first c.seek-i-in-Wide.ensures.last c.seek-i-in-Wide.ensures.absent)
          ∙ target_turn m es norm value c.args.kept.now order i k c.index-kept-order.result so_far (target_shown value true c.loop-i.f) whole e c.loop-i-test.true c.index-kept-order.is below further c.loop-i.invariant.2,
    )

pub loop-i-preserved : goal.loop-i-preserved
loop-i-preserved g c =
    let m = g.R.Ring.modulus_of c.args.ring.now in let value = g.R.Ring.amount c.args.ring.now in
    let es = equations_of value c.args.equations.now in let ps = pivots_shown value c.args.kept.now in
    let norm = p.norm_of (p.terms_of value c.args.claim.now) in
    let order = c.args.order.now in let i = c.loop-i.i in let k = get_or order i 0 in
    let e = get_or_default order i 0 k c.loop-i-test.true in
    let below = place_below value c.args.kept.now order i k e c.loop-i-test.true c.requires.sorted in
    let further = rw c.in-Next.is at (c.in_ok-step_by_pivot.ensures.further c.loop-i.noted (pivots_at ps (drop (i + 1) order))) in
    let aimed = rw c.in-Next.is at c.in_ok-step_by_pivot.ensures.aimed in
    let so_far = target_shown value c.loop-i.noted c.loop-i.f in
    let whole = s.target_by m es norm (rows.by_leading ps) (target_shown value false c.args.f) in (
      c.seek-i-in-Next.ensures.last,
      aimed,
      sym (target_skip m es norm ps order (target_shown value c.loop-i.noted c.in-Next.next) (i + 1) c.seek-i-in-Next.result c.seek-i-in-Next.ensures.first c.seek-i-in-Next.ensures.last c.seek-i-in-Next.ensures.absent)
          ∙ target_turn m es norm value c.args.kept.now order i k c.index-kept-order.result so_far (target_shown value c.loop-i.noted c.in-Next.next) whole e c.loop-i-test.true c.index-kept-order.is below further c.loop-i.invariant.2,
    )
