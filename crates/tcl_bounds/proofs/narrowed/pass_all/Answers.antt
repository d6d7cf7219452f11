-- The lines of a form can be passed.
use Rattle.std.proofs.Common.{◌≡◌, ◌∙◌, ap, sym, subst, List, take, slice_index_or}
use Rattle.std.specs.List.{slice_get}
use Rattle.tcl_lang.specs.declared.pred.Line.{Line}
use Rattle.tcl_bounds.specs.Conditions.{AreWithin}
use Rattle.tcl_bounds.proofs.Within.{uses_within}
use Rattle.tcl_bounds.proofs.Stepping.{can_pass_line}
use Rattle.tcl_bounds.proofs.narrowed.pass_all.Goals as goal

pub pass-requires : goal.pass-requires
pass-requires c l at =
    let p = c.args.ssa.now in
    let k = slice_index_or c.args.uses.now c.loop-k.k 0 in
    let lines : c.as_slice-lines.result.now ≡ p.lines = c.as_slice-lines.ensures ∙ c.lines.ensures.lines in
    can_pass_line p c.loop-k.bounds k l c.lines.ensures.well_formed
    (subst (AreWithin p.variables) (sym c.loop-k.invariant)
    (uses_within p.lines p.variables c.args.limits.now (take c.loop-k.k c.args.uses.now) c.args.bounds.now c.requires.limits c.requires.bounds))
    (ap (λ (ls : List Line). slice_get ls k) (sym lines) ∙ at)

pub returns-clause-within : goal.returns-clause-within
returns-clause-within c =
    let p = c.args.ssa.now in
    subst (AreWithin p.variables) (sym c.loop-k.invariant)
    (uses_within p.lines p.variables c.args.limits.now (take c.loop-k.k c.args.uses.now) c.args.bounds.now c.requires.limits c.requires.bounds)
