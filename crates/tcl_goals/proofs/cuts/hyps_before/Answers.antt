-- A line is found where it is a default hypothesis.
use Rattle.std.proofs.Common.{rules, ◌≡◌, ◌∙◌, ◌++◌, refl, sym, ap, length, [], ◌∷◌, Some, true, false, arith}
use Rattle.std.specs.List.{slice_get}
use Rattle.std.proofs.lemmas.Option.{slice_get_read}
use Rattle.tcl_goals.specs.declared.fact.Hyp.TheVariants as hyp
use Rattle.tcl_goals.specs.Defaults.{is_default}
use Rattle.tcl_goals.proofs.Numbers.{hyps_yes, hyps_no}
use Rattle.tcl_goals.proofs.cuts.hyps_before.Goals as goal
use Rattle.tcl_goals.proofs.cuts.hyps_before.Goals.{then-is_default+in_ok-push, else-is_default}

pub loop-k-preserved : goal.loop-k-preserved
loop-k-preserved c =
    let lines = c.args.lines.now in
    let k = c.loop-k.k in
    let s = c.args.starts in
    let line = c.index-lines-k.result in
    let at : slice_get lines k ≡ Some line = slice_get_read lines (length lines) k line refl (omega arith) c.index-lines-k.is in
    elim c.if-is_default.branch [
      | then-is_default+in_ok-push w ↦
          let passed : is_default s k line ≡ true = cc (c.is_default.ensures, w.if-is_default.true) in
          let pushed : c.if-is_default.hyps ≡ c.loop-k.hyps ++ hyp.Line k ∷ [] = search rules in
          pushed ∙ ap (λ hs. hs ++ hyp.Line k ∷ []) c.loop-k.invariant ∙ sym (hyps_yes lines s k line at passed)
      | else-is_default w ↦
          let failed : is_default s k line ≡ false = cc (c.is_default.ensures, w.if-is_default.false) in
          w.hyps-is ∙ c.loop-k.invariant ∙ sym (hyps_no lines s k line at failed)
    ]
