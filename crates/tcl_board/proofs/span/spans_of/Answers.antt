use Rattle.std.proofs.Common.{◌≡◌, ◌+◌, ◌∙◌, get_or, refl, sym, ap, subst, arith, length, Some}
use Rattle.std.specs.List.{slice_get}
use Rattle.std.proofs.lemmas.Option.{slice_get_read}
use Rattle.tcl_board.specs.Index.{HaveSpans}
use Rattle.tcl_board.proofs.Indexing.{spans_more, extend_length}
use Rattle.tcl_board.proofs.span.spans_of.Goals as goal

pub loop-k-preserved : goal.loop-k-preserved
loop-k-preserved c =
    let pieces = c.args.pieces.now in
    let k = c.loop-k.k in
    let read = c.index-pieces-k.result in
    let piece = get_or pieces k read in
    let at : slice_get pieces k ≡ Some piece = slice_get_read pieces (length pieces) k read refl (omega arith) c.index-pieces-k.is ∙ ap Some c.index-pieces-k.is in (
      subst (HaveSpans pieces (k + 1)) (sym c.extend.ensures) (spans_more pieces k piece c.loop-k.spans at c.loop-k.invariant.0),
      ap length c.extend.ensures ∙ (extend_length c.loop-k.spans piece.goal k (slice_get c.loop-k.spans piece.goal) ∙ c.loop-k.invariant.1),
    )
