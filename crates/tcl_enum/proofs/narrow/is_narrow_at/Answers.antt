-- The line at the place has a sound modulus.
use Rattle.std.proofs.Common.{◌≡◌, refl, sym, ap, ◌∙◌, length, List, Option, Some, None}
use Rattle.std.specs.List.{slice_get}
use Rattle.std.proofs.lemmas.Option.{slice_get_read, slice_get_past}
use Rattle.tcl_lang.specs.declared.pred.Line.{Line}
use Rattle.tcl_lang.specs.declared.variable.Variable.{Variable}
use Rattle.tcl_lang.specs.Narrow.{is_narrow}
use Rattle.tcl_lang.specs.Values.{types_of}
use Rattle.tcl_measure.proofs.Moduli.{modulus_at}
use Rattle.tcl_enum.specs.NarrowFact.{is_narrow_in}
use Rattle.tcl_enum.proofs.narrow.is_narrow_at.Goals as goal

pub is_narrow-requires : goal.is_narrow-requires
is_narrow-requires c =
    let line = c.in-Some.line.now in
    let lines = c.as_slice.result.now in
    let at : slice_get c.args.ssa.now.lines c.args.place ≡ Some line =
    ap (λ (ls : List Line). slice_get ls c.args.place) (sym (c.as_slice.ensures ∙ c.lines.ensures.lines))
    ∙ slice_get_read lines (length lines) c.args.place line refl c.in-Some.ensures.lookup.3.0 c.in-Some.ensures.lookup.1 in
    modulus_at c.args.ssa.now c.args.place line c.lines.ensures.well_formed at

pub returns-in-Some : goal.returns-in-Some
returns-in-Some c =
    let line = c.in-Some.line.now in
    let lines = c.as_slice.result.now in
    let at : slice_get c.args.ssa.now.lines c.args.place ≡ Some line =
    ap (λ (ls : List Line). slice_get ls c.args.place) (sym (c.as_slice.ensures ∙ c.lines.ensures.lines))
    ∙ slice_get_read lines (length lines) c.args.place line refl c.in-Some.ensures.lookup.3.0 c.in-Some.ensures.lookup.1 in
    c.is_narrow.ensures
    ∙ ap (λ (vs : List Variable). is_narrow (types_of vs) line) (c.as_slice-in-Some.ensures ∙ c.variables.ensures.variables)
    ∙ ap (λ (o : Option Line). is_narrow_in (types_of c.args.ssa.now.variables) o) (sym at)

pub returns-in-None : goal.returns-in-None
returns-in-None c =
    let at : slice_get c.args.ssa.now.lines c.args.place ≡ None =
    ap (λ (ls : List Line). slice_get ls c.args.place) (sym (c.as_slice.ensures ∙ c.lines.ensures.lines))
    ∙ slice_get_past c.as_slice.result.now c.args.place c.in-None.ensures.lookup.3 in
    ap (λ (o : Option Line). is_narrow_in (types_of c.args.ssa.now.variables) o) (sym at)
