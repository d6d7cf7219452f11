-- The literals of the lines are values of words.
use Rattle.std.proofs.Common.{◌∙◌, ap, List, length}
use Rattle.std.specs.List.{slice_get}
use Rattle.tcl_lang.specs.declared.pred.Line.{Line}
use Rattle.tcl_bounds.specs.Conditions.{line_has_words}
use Rattle.tcl_bounds.proofs.LineWords.{lines_have_words}
use Rattle.tcl_bounds.proofs.narrowed.limits.Goals as goal

pub narrow_all-requires : goal.narrow_all-requires
narrow_all-requires c k =
    let p = c.args.ssa.now in
    ap (λ (ls : List Line). line_has_words (slice_get ls k)) (c.as_slice-2.ensures ∙ c.lines.ensures.lines)
    ∙ lines_have_words (length p.variables) p.lines c.lines.ensures.well_formed.runnable k
