-- One goal more.
use Rattle.std.proofs.Common.{◌≡◌, ◌∙◌, ap, arith, List}
use Rattle.tcl_lang.specs.declared.pred.Line.{Line}
use Rattle.tcl_lang.specs.Goal.{goal_count}
use Rattle.tcl_slice.proofs.Planning.{goals_none, goals_more, goals_all}
use Rattle.tcl_slice.proofs.plans.add_goals.Goals as goal

pub loop-goal-init : goal.loop-goal-init
loop-goal-init c = c.requires.begins ∙ goals_none c.args.ssa.now c.args.split

pub loop-goal-preserved : goal.loop-goal-preserved
loop-goal-preserved c = c.in_ok-add_goal.ensures ∙ goals_more c.args.ssa.now c.args.split c.loop-goal.goal c.loop-goal.plan c.loop-goal.invariant

pub returns : goal.returns
returns c =
    let p = c.args.ssa.now in
    let all : c.goal_count-count.result ≡ goal_count p.lines = c.goal_count-count.ensures ∙ ap (λ (ls : List Line). goal_count ls) (c.as_slice.ensures ∙ c.lines.ensures.lines) in
    let end : c.loop-goal.goal ≡ c.goal_count-count.result = omega (arith, c.loop-goal-test.false, c.loop-goal.auto.goal-end) in
    goals_all p c.args.split c.loop-goal.goal c.loop-goal.plan (end ∙ all) c.loop-goal.invariant
