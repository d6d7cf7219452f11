-- What the values of the run say the input says.
use Rattle.std.proofs.Common.{◌≡◌, ◌∙◌, ap, List}
use Rattle.tcl_lang.specs.declared.pred.Line.{Line}
use Rattle.tcl_lang.specs.Values.{trace_of}
use Rattle.tcl_goals.specs.Places.{goal_place}
use Rattle.tcl_kernel.specs.Strays.{stray_before}
use Rattle.tcl_kernel.specs.ValueStrays.{first_of_values}
use Rattle.tcl_kernel.proofs.Strays.{values_tell}
use Rattle.tcl_kernel.proofs.stray.first_stray.Goals as goal

pub returns : goal.returns
returns c =
    let p = c.args.ssa.now in
    let input = c.args.input.now in
    let same : c.as_slice.result.now ≡ p.lines = c.as_slice.ensures ∙ c.lines.ensures.lines in
    let place : c.goal_place-place.result ≡ goal_place p.lines c.args.goal = c.goal_place-place.ensures.place ∙ ap (λ (ls : List Line). goal_place ls c.args.goal) same in
    let are : c.as_slice-2.result.now ≡ trace_of p input = c.as_slice-2.ensures ∙ c.in_ok-values.ensures.trace in
    c.stray_before.ensures ∙ ap (λ vs. first_of_values p vs c.goal_place-place.result) are
    ∙ values_tell p input c.goal_place-place.result c.lines.ensures.well_formed c.requires
    ∙ ap (stray_before p input) place
