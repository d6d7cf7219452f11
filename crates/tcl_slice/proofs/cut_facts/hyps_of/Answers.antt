-- A line is added where it counts.
use Rattle.std.proofs.Common.{◌≡◌, ◌∙◌, ◌++◌, ◌∷◌, [], refl, sym, ap, cond, length, Some, arith}
use Rattle.std.specs.List.{slice_get}
use Rattle.std.proofs.lemmas.Option.{slice_get_read}
use Rattle.tcl_goals.specs.declared.fact.Hyp.TheVariants as hyp
use Rattle.tcl_slice.proofs.Slicing.{hyps_none, hyps_next}
use Rattle.tcl_slice.proofs.cut_facts.hyps_of.Goals as goal

pub loop-k-init : goal.loop-k-init
loop-k-init c = c.new-hyps.ensures ∙ sym (hyps_none c.args.lines.now c.args.starts c.args.marks.now)

pub loop-k-preserved : goal.loop-k-preserved
loop-k-preserved c =
    let lines = c.args.lines.now in
    let k = c.loop-k.k in
    let line = c.index-lines-k.result in
    let counts = c.is_sliced_hyp-counts.result in
    let at : slice_get lines k ≡ Some line = slice_get_read lines (length lines) k line refl (omega arith) c.index-lines-k.is in
    c.in_ok-add_hyp.ensures ∙ ap (λ hs. cond counts (hs ++ hyp.Line k ∷ []) hs) c.loop-k.invariant
    ∙ sym (hyps_next lines c.args.starts c.args.marks.now k line counts at c.is_sliced_hyp-counts.ensures)
