-- Each turn adds the row before; what is left of the claim comes last.
use Rattle.std.proofs.Common.{◌≡◌, ◌+◌, ◌-◌, ◌<◌, [], length, drop, ◌∙◌, ap, arith}
use Rattle.tcl_reduce.specs.Multiple.{row_unknowns}
use Rattle.tcl_pivots.specs.Held.{pivots_shown}
use Rattle.tcl_member.specs.Course.{keys_in}
use Rattle.tcl_member.proofs.KeyLists.{pivots_next}
use Rattle.tcl_member.proofs.unknowns.unknowns_of.Goals as goal

pub loop-k-preserved : goal.loop-k-preserved
loop-k-preserved g c =
    let j = c.loop-k.k - 1 in
    let kept = c.args.kept.now in
    let place : c.loop-k.k ≡ j + 1 = omega (arith, c.loop-k-test.true) in
    let below : j < length kept = omega (arith, c.loop-k-test.true, c.loop-k.invariant.0) in (
      omega (arith, c.loop-k.invariant.0),
      λ value. pivots_next value kept [] j c.index-kept-k.result (keys_in c.loop-k.unknowns.items) (keys_in c.add_unknowns.new.unknowns.items) c.index-kept-k.is below (c.loop-k.invariant.1 value ∙ ap (λ n. row_unknowns (pivots_shown value (drop n kept)) []) place) (c.in_ok-add_unknowns.ensures value),
    )
