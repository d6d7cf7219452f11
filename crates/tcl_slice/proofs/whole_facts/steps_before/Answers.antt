-- A line is found where it is an instruction.
use Rattle.std.proofs.Common.{rules, ◌≡◌, ◌∙◌, ◌++◌, refl, sym, ap, length, [], ◌∷◌, Some, true, false, arith}
use Rattle.std.specs.List.{slice_get}
use Rattle.std.proofs.lemmas.Option.{slice_get_read}
use Rattle.tcl_goals.specs.Places as places
use Rattle.tcl_slice.proofs.Before.{steps_none, steps_yes, steps_no}
use Rattle.tcl_slice.proofs.whole_facts.steps_before.Goals as goal
use Rattle.tcl_slice.proofs.whole_facts.steps_before.Goals.{then-is_step+in_ok-push, else-is_step}

pub loop-k-init : goal.loop-k-init
loop-k-init c = c.new-uses.ensures ∙ sym (steps_none c.args.lines.now)

pub loop-k-preserved : goal.loop-k-preserved
loop-k-preserved c =
    let lines = c.args.lines.now in
    let k = c.loop-k.k in
    let line = c.index-lines-k.result in
    let at : slice_get lines k ≡ Some line = slice_get_read lines (length lines) k line refl (omega arith) c.index-lines-k.is in
    elim c.if-is_step.branch [
      | then-is_step+in_ok-push w ↦
          let passed : places.is_step line ≡ true = cc (c.is_step.ensures, w.if-is_step.true) in
          let pushed : c.if-is_step.uses ≡ c.loop-k.uses ++ k ∷ [] = search rules in
          pushed ∙ ap (λ ks. ks ++ k ∷ []) c.loop-k.invariant ∙ sym (steps_yes lines k line at passed)
      | else-is_step w ↦
          let failed : places.is_step line ≡ false = cc (c.is_step.ensures, w.if-is_step.false) in
          w.uses-is ∙ c.loop-k.invariant ∙ sym (steps_no lines k line at failed)
    ]
