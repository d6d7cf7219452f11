-- The stray is a smaller goal that is broken, or the cause.
use Rattle.std.proofs.Common.{◌∙◌, subst, List}
use Rattle.tcl_lang.specs.declared.pred.Line.{Line}
use Rattle.tcl_worker.specs.Strays.{IsFalseGoal}
use Rattle.tcl_worker.proofs.Gifts.{smaller_checks, smaller_outcome}
use Rattle.tcl_worker.proofs.models.strayed.Goals as goal

pub break_of-requires-clause-checks : goal.break_of-requires-clause-checks
break_of-requires-clause-checks c =
    smaller_checks c.args.ssa.now c.args._budget c.args.piece.now c.args.input c.args.stray c.in-Some.goal c.requires.formed c.requires.model c.requires.first
    (subst (λ (ls : List Line). IsFalseGoal ls c.args.stray c.in-Some.goal) (c.as_slice.ensures ∙ c.lines.ensures.lines) c.in-Some.ensures)

pub returns-in_ok-proof-in-Some-clause-outcome : goal.returns-in_ok-proof-in-Some-clause-outcome
returns-in_ok-proof-in-Some-clause-outcome c =
    smaller_outcome c.args.ssa.now c.args._budget c.args.piece.now c.args.input c.args.stray c.in-Some.goal c.in_ok-proof-in-Some.proof c.requires.piece c.requires.model c.requires.first
    (subst (λ (ls : List Line). IsFalseGoal ls c.args.stray c.in-Some.goal) (c.as_slice.ensures ∙ c.lines.ensures.lines) c.in-Some.ensures)
    c.in_ok-proof-in-Some.ensures
