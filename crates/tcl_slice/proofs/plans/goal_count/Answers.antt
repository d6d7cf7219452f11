-- One line more.
use Rattle.std.proofs.Common.{◌≡◌, ◌≤◌, ◌∙◌, ◌+◌, refl, sym, ap₂, cond, length, Bool, true, false, Some, arith}
use Rattle.std.specs.List.{slice_get}
use Rattle.std.proofs.lemmas.Option.{slice_get_read}
use Rattle.tcl_lang.specs.Line.{is_goal}
use Rattle.tcl_lang.proofs.Runs.{goals_begin, goals_go}
use Rattle.tcl_slice.proofs.Planning.{counted_all}
use Rattle.tcl_slice.proofs.plans.goal_count.Goals as goal

pub loop-k-init : goal.loop-k-init
loop-k-init c = record { count = sym (goals_begin c.args.lines.now); few = omega arith }

at_most_one : (b : Bool) → cond b 1 0 ≤ 1
at_most_one true = omega arith
at_most_one false = omega arith

pub loop-k-preserved : goal.loop-k-preserved
loop-k-preserved c =
    let lines = c.args.lines.now in
    let k = c.loop-k.k in
    let line = c.index-lines-k.result in
    let at : slice_get lines k ≡ Some line = slice_get_read lines (length lines) k line refl (omega arith) c.index-lines-k.is in
    record {
      count = ap₂ (λ n m. n + m) c.loop-k.invariant.count c.is_goal-count.ensures ∙ sym (goals_go lines k line at);
      few = omega (arith, c.loop-k.invariant.few, c.is_goal-count.ensures, at_most_one (is_goal line));
    }

pub returns : goal.returns
returns c = c.loop-k.invariant.count ∙ counted_all c.args.lines.now c.loop-k.k (omega (arith, c.loop-k-test.false))
