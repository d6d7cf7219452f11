use Rattle.std.proofs.Common.{◌≡◌, ◌-◌, ◌+◌, ◌<◌, subst, length, arith}
use Rattle.tcl_sat.proofs.Floors.{AreGivenFrom, floor_found, given_more}
use Rattle.tcl_sat.proofs.Explains.{is_none_told, is_some_told}
use Rattle.tcl_sat.proofs.analysis.floor_of.Goals as goal

pub returns-then-is_none : goal.returns-then-is_none
returns-then-is_none c =
    let es = c.args.trail.now.entries in
    let n = c.loop-place.place - 1 in
    let up : c.loop-place.place ≡ n + 1 = omega (arith, c.loop-place-test.true) in
    let within : n < length es = omega (arith, c.loop-place-test.true, c.loop-place.invariant.within) in
    floor_found es n c.reason_at.result within c.reason_at.ensures
    (is_none_told c.reason_at.result c.is_none.result c.is_none.ensures c.if-is_none.true) (subst (λ k. AreGivenFrom es k) up c.loop-place.invariant.given)

pub loop-place-preserved : goal.loop-place-preserved
loop-place-preserved c =
    let es = c.args.trail.now.entries in
    let n = c.loop-place.place - 1 in
    let up : c.loop-place.place ≡ n + 1 = omega (arith, c.loop-place-test.true) in
    record {
      given = given_more es n c.reason_at.result c.reason_at.ensures
          (is_some_told c.reason_at.result c.is_none.result c.is_none.ensures c.if-is_none.false) (subst (λ k. AreGivenFrom es k) up c.loop-place.invariant.given);
      within = omega (arith, c.loop-place.invariant.within);
    }
