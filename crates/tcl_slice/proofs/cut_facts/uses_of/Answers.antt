-- A line is added where it counts.
use Rattle.std.proofs.Common.{◌≡◌, ◌∙◌, ◌++◌, ◌∷◌, [], refl, sym, ap, cond, length, Some, arith}
use Rattle.std.specs.List.{slice_get}
use Rattle.std.proofs.lemmas.Option.{slice_get_read}
use Rattle.tcl_slice.proofs.Slicing.{uses_none, uses_next}
use Rattle.tcl_slice.proofs.cut_facts.uses_of.Goals as goal

pub loop-k-init : goal.loop-k-init
loop-k-init c = c.new-uses.ensures ∙ sym (uses_none c.args.lines.now c.args.starts c.args.marks.now)

pub loop-k-preserved : goal.loop-k-preserved
loop-k-preserved c =
    let lines = c.args.lines.now in
    let k = c.loop-k.k in
    let line = c.index-lines-k.result in
    let counts = c.is_sliced_step-counts.result in
    let at : slice_get lines k ≡ Some line = slice_get_read lines (length lines) k line refl (omega arith) c.index-lines-k.is in
    c.in_ok-add_use.ensures ∙ ap (λ us. cond counts (us ++ k ∷ []) us) c.loop-k.invariant
    ∙ sym (uses_next lines c.args.starts c.args.marks.now k line counts at c.is_sliced_step-counts.ensures)
