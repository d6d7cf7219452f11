-- A variable is found where it is in the one set and not in the other.
use Rattle.std.proofs.Common.{rules, ◌≡◌, ◌∙◌, ◌++◌, sym, ap, [], ◌∷◌, true, false, not, ◌&&◌}
use Rattle.tcl_goals.specs.Closure.{is_marked}
use Rattle.tcl_goals.proofs.Numbers.{next_yes, next_no}
use Rattle.tcl_goals.proofs.free.unmarked.Goals as goal
use Rattle.tcl_goals.proofs.free.unmarked.Goals.{then-is_left+in_ok-push, else-is_left}

pub loop-v-preserved : goal.loop-v-preserved
loop-v-preserved c =
    let v = c.loop-v.v in
    let named = c.args.named.now.marks in
    let computed = c.args.computed.now.marks in
    elim c.if-is_left.branch [
      | then-is_left+in_ok-push w ↦
          let passed : (is_marked named v && not (is_marked computed v)) ≡ true = cc (c.is_left.ensures, w.if-is_left.true) in
          let pushed : c.if-is_left.chosen ≡ c.loop-v.chosen ++ v ∷ [] = search rules in
          pushed ∙ ap (λ vs. vs ++ v ∷ []) c.loop-v.invariant ∙ sym (next_yes (λ k. is_marked named k && not (is_marked computed k)) v passed)
      | else-is_left w ↦
          let failed : (is_marked named v && not (is_marked computed v)) ≡ false = cc (c.is_left.ensures, w.if-is_left.false) in
          w.chosen-is ∙ c.loop-v.invariant ∙ sym (next_no (λ k. is_marked named k && not (is_marked computed k)) v failed)
    ]
