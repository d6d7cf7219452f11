-- A line is found where it is a hypothesis.
use Rattle.std.proofs.Common.{rules, ◌≡◌, ◌∙◌, ◌++◌, refl, sym, ap, length, [], ◌∷◌, Some, true, false, arith}
use Rattle.std.specs.List.{slice_get}
use Rattle.std.proofs.lemmas.Option.{slice_get_read}
use Rattle.tcl_lang.specs.Line.{is_hypothesis}
use Rattle.tcl_goals.specs.declared.fact.Hyp.TheVariants as hyp
use Rattle.tcl_slice.proofs.Before.{hyps_none, hyps_yes, hyps_no}
use Rattle.tcl_slice.proofs.whole_facts.hyps_before.Goals as goal
use Rattle.tcl_slice.proofs.whole_facts.hyps_before.Goals.{then-is_hypothesis+in_ok-push, else-is_hypothesis}

pub loop-k-init : goal.loop-k-init
loop-k-init c = c.new-hyps.ensures ∙ sym (hyps_none c.args.lines.now)

pub loop-k-preserved : goal.loop-k-preserved
loop-k-preserved c =
    let lines = c.args.lines.now in
    let k = c.loop-k.k in
    let line = c.index-lines-k.result in
    let at : slice_get lines k ≡ Some line = slice_get_read lines (length lines) k line refl (omega arith) c.index-lines-k.is in
    elim c.if-is_hypothesis.branch [
      | then-is_hypothesis+in_ok-push w ↦
          let passed : is_hypothesis line ≡ true = cc (c.is_hypothesis.ensures, w.if-is_hypothesis.true) in
          let pushed : c.if-is_hypothesis.hyps ≡ c.loop-k.hyps ++ hyp.Line k ∷ [] = search rules in
          pushed ∙ ap (λ hs. hs ++ hyp.Line k ∷ []) c.loop-k.invariant ∙ sym (hyps_yes lines k line at passed)
      | else-is_hypothesis w ↦
          let failed : is_hypothesis line ≡ false = cc (c.is_hypothesis.ensures, w.if-is_hypothesis.false) in
          w.hyps-is ∙ c.loop-k.invariant ∙ sym (hyps_no lines k line at failed)
    ]
