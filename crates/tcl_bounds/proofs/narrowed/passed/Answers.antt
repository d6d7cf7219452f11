-- Narrowed types lie within the types, and rows met with them are narrowed by the hypotheses.
use Rattle.std.proofs.Common.{◌∙◌, ap, sym, subst, List}
use Rattle.std.specs.List.{fold}
use Rattle.tcl_bounds.specs.declared.interval.Interval.{Interval}
use Rattle.tcl_bounds.specs.Bounds.{wholes, narrowed_all, pass_line}
use Rattle.tcl_bounds.specs.Limits.{met_with}
use Rattle.tcl_bounds.specs.Conditions.{AreWithin}
use Rattle.tcl_bounds.proofs.Within.{narrowed_within}
use Rattle.tcl_bounds.proofs.Passing.{bounds_are}
use Rattle.tcl_bounds.proofs.narrowed.passed.Goals as goal

pub pass_all-requires-clause-bounds : goal.pass_all-requires-clause-bounds
pass_all-requires-clause-bounds c =
    let p = c.args.ssa.now in
    subst (AreWithin p.variables) (sym c.requires.bounds) (narrowed_within p.lines p.variables c.args.fact.now.hyps)

pub pass_all-requires-clause-limits : goal.pass_all-requires-clause-limits
pass_all-requires-clause-limits c =
    let p = c.args.ssa.now in
    subst (AreWithin p.variables) (sym c.requires.limits) (narrowed_within p.lines p.variables c.args.fact.now.hyps)

pub returns-clause-bounds : goal.returns-clause-bounds
returns-clause-bounds c =
    let p = c.args.ssa.now in
    let fact = c.args.fact.now in
    c.pass_all.ensures.bounds
    ∙ ap (λ (limits : List Interval). fold (pass_line (met_with limits) p.lines) c.args.bounds.now c.as_slice.result.now) c.requires.limits
    ∙ ap (λ (bs : List Interval). fold (pass_line (met_with (narrowed_all p fact (wholes p.variables))) p.lines) bs c.as_slice.result.now) c.requires.bounds
    ∙ ap (fold (pass_line (met_with (narrowed_all p fact (wholes p.variables))) p.lines) (narrowed_all p fact (wholes p.variables))) c.as_slice.ensures
    ∙ bounds_are p fact c.lines-form.ensures.well_formed
