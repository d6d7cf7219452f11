-- A variable is found where it is in the set.
use Rattle.std.proofs.Common.{rules, ◌≡◌, ◌∙◌, ◌++◌, sym, ap, [], ◌∷◌, true, false}
use Rattle.tcl_goals.specs.Closure.{is_marked}
use Rattle.tcl_goals.proofs.Numbers.{next_yes, next_no}
use Rattle.tcl_goals.proofs.variables.marked.Goals as goal
use Rattle.tcl_goals.proofs.variables.marked.Goals.{then-has+in_ok-push, else-has}

pub loop-v-preserved : goal.loop-v-preserved
loop-v-preserved c =
    let v = c.loop-v.v in
    let named = c.args.named.now.marks in
    elim c.if-has.branch [
      | then-has+in_ok-push w ↦
          let passed : is_marked named v ≡ true = cc (c.has.ensures, w.if-has.true) in
          let pushed : c.if-has.chosen ≡ c.loop-v.chosen ++ v ∷ [] = search rules in
          pushed ∙ ap (λ vs. vs ++ v ∷ []) c.loop-v.invariant ∙ sym (next_yes (is_marked named) v passed)
      | else-has w ↦
          let failed : is_marked named v ≡ false = cc (c.has.ensures, w.if-has.false) in
          w.chosen-is ∙ c.loop-v.invariant ∙ sym (next_no (is_marked named) v failed)
    ]
