-- The goals of a form can be looked at.
use Rattle.std.proofs.Common.{◌≡◌, ◌∙◌, ap, sym, List}
use Rattle.std.specs.List.{slice_get}
use Rattle.tcl_lang.specs.declared.pred.Line.{Line}
use Rattle.tcl_bounds.proofs.Stepping.{can_follow}
use Rattle.tcl_bounds.proofs.claims.claim_follows.Goals as goal

pub goal_follows-requires : goal.goal_follows-requires
goal_follows-requires c k l at =
    let lines : c.as_slice.result.now ≡ c.args.ssa.now.lines = c.as_slice.ensures ∙ c.lines.ensures.lines in
    can_follow c.args.ssa.now c.args.bounds.now k l c.lines.ensures.well_formed c.requires.within
    (ap (λ (ls : List Line). slice_get ls k) (sym lines) ∙ at) c.requires.filled
