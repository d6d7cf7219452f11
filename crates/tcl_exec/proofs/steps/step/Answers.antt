-- The line at the place can be gone through, and values stay in their types.
use Rattle.std.proofs.Common.{◌≡◌, refl, ℤ, sym, ap, ◌∙◌, subst, length, List, Option, Some, None}
use Rattle.std.specs.List.{slice_get}
use Rattle.std.proofs.lemmas.Option.{slice_get_read, slice_get_past}
use Rattle.tcl_lang.specs.declared.pred.Line.{Line}
use Rattle.tcl_lang.specs.Values.{AreValues, recomputed_at}
use Rattle.tcl_exec.proofs.Stepping.{passes_zero, stays_typed}
use Rattle.tcl_exec.proofs.steps.step.Goals as goal

pub recompute_line-requires : goal.recompute_line-requires
recompute_line-requires c =
    let line = c.in-Some.line.now in
    let lines = c.as_slice.result.now in
    let at : slice_get c.args.ssa.now.lines c.args.place ≡ Some line =
    ap (λ (ls : List Line). slice_get ls c.args.place) (sym (c.as_slice.ensures ∙ c.lines.ensures.lines))
    ∙ slice_get_read lines (length lines) c.args.place line refl c.in-Some.ensures.lookup.3.0 c.in-Some.ensures.lookup.1 in
    passes_zero c.args.ssa.now c.args.values.now c.args.place line c.lines.ensures.well_formed c.requires at

pub returns-in-Some-clause-values : goal.returns-in-Some-clause-values
returns-in-Some-clause-values c =
    let line = c.in-Some.line.now in
    let lines = c.as_slice.result.now in
    let at : slice_get c.args.ssa.now.lines c.args.place ≡ Some line =
    ap (λ (ls : List Line). slice_get ls c.args.place) (sym (c.as_slice.ensures ∙ c.lines.ensures.lines))
    ∙ slice_get_read lines (length lines) c.args.place line refl c.in-Some.ensures.lookup.3.0 c.in-Some.ensures.lookup.1 in
    c.recompute_line.ensures ∙ ap (λ (o : Option Line). recomputed_at c.args.values.now o) (sym at)

pub returns-in-Some-clause-typed : goal.returns-in-Some-clause-typed
returns-in-Some-clause-typed c =
    let line = c.in-Some.line.now in
    let lines = c.as_slice.result.now in
    let at : slice_get c.args.ssa.now.lines c.args.place ≡ Some line =
    ap (λ (ls : List Line). slice_get ls c.args.place) (sym (c.as_slice.ensures ∙ c.lines.ensures.lines))
    ∙ slice_get_read lines (length lines) c.args.place line refl c.in-Some.ensures.lookup.3.0 c.in-Some.ensures.lookup.1 in
    let same = c.recompute_line.ensures ∙ ap (λ (o : Option Line). recomputed_at c.args.values.now o) (sym at) in
    subst (λ (ns : List ℤ). AreValues c.args.ssa.now.variables ns) (sym same) (stays_typed c.args.ssa.now c.args.values.now c.args.place c.lines.ensures.well_formed c.requires)

pub returns-in-None-clause-values : goal.returns-in-None-clause-values
returns-in-None-clause-values c =
    let at : slice_get c.args.ssa.now.lines c.args.place ≡ None =
    ap (λ (ls : List Line). slice_get ls c.args.place) (sym (c.as_slice.ensures ∙ c.lines.ensures.lines))
    ∙ slice_get_past c.as_slice.result.now c.args.place c.in-None.ensures.lookup.3 in
    sym (ap (λ (o : Option Line). recomputed_at c.args.values.now o) at)
