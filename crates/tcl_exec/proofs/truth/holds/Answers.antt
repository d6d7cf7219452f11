-- The line at the place can be told at these values.
use Rattle.std.proofs.Common.{◌≡◌, refl, sym, ap, ◌∙◌, subst, length, List, Option, Some, None}
use Rattle.std.specs.List.{slice_get}
use Rattle.std.proofs.lemmas.Option.{slice_get_read, slice_get_past}
use Rattle.tcl_lang.specs.declared.pred.Line.{Line}
use Rattle.tcl_lang.specs.declared.variable.Variable.{Variable}
use Rattle.tcl_lang.specs.Truth.{line_computed}
use Rattle.tcl_lang.specs.Checked.{computed_in}
use Rattle.tcl_lang.specs.Values.{words_of}
use Rattle.tcl_exec.specs.Tellable.{IsTellable}
use Rattle.tcl_exec.proofs.Tellable.{tellable, computed_is}
use Rattle.tcl_exec.proofs.truth.holds.Goals as goal

pub line_truth-requires-clause-tellable : goal.line_truth-requires-clause-tellable
line_truth-requires-clause-tellable c =
    let f = c.args.ssa.now in
    let line = c.in-Some.line.now in
    let lines = c.as_slice.result.now in
    let at : slice_get f.lines c.args.place ≡ Some line =
    ap (λ (ls : List Line). slice_get ls c.args.place) (sym (c.as_slice.ensures ∙ c.lines.ensures.lines))
    ∙ slice_get_read lines (length lines) c.args.place line refl c.in-Some.ensures.lookup.3.0 c.in-Some.ensures.lookup.1 in
    subst (λ (vs : List Variable). IsTellable vs c.args.values.now line) (sym (c.as_slice-in-Some.ensures ∙ c.variables.ensures.variables))
    (tellable f c.args.values.now c.args.place line c.lines.ensures.well_formed c.requires at)

pub returns-in-Some : goal.returns-in-Some
returns-in-Some c =
    let f = c.args.ssa.now in
    let line = c.in-Some.line.now in
    let lines = c.as_slice.result.now in
    let at : slice_get f.lines c.args.place ≡ Some line =
    ap (λ (ls : List Line). slice_get ls c.args.place) (sym (c.as_slice.ensures ∙ c.lines.ensures.lines))
    ∙ slice_get_read lines (length lines) c.args.place line refl c.in-Some.ensures.lookup.3.0 c.in-Some.ensures.lookup.1 in
    c.line_truth.ensures
    ∙ ap (λ (vs : List Variable). line_computed (words_of vs c.args.values.now) line) (c.as_slice-in-Some.ensures ∙ c.variables.ensures.variables)
    ∙ ap (λ (o : Option Line). computed_in (words_of f.variables c.args.values.now) o) (sym at)
    ∙ sym (computed_is f c.args.values.now c.args.place)

pub returns-in-None : goal.returns-in-None
returns-in-None c =
    let f = c.args.ssa.now in
    let at : slice_get f.lines c.args.place ≡ None =
    ap (λ (ls : List Line). slice_get ls c.args.place) (sym (c.as_slice.ensures ∙ c.lines.ensures.lines))
    ∙ slice_get_past c.as_slice.result.now c.args.place c.in-None.ensures.lookup.3 in
    ap (λ (o : Option Line). computed_in (words_of f.variables c.args.values.now) o) (sym at)
    ∙ sym (computed_is f c.args.values.now c.args.place)
