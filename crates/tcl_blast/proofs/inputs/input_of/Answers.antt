-- The values are those of the free bits.
use Rattle.std.proofs.Common.{◌∙◌, sym, ap, subst, List}
use Rattle.tcl_lang.specs.declared.pred.Line.{Line}
use Rattle.tcl_lang.specs.Run.{Fits, taken_types}
use Rattle.tcl_slice.specs.Runs.{input_from}
use Rattle.tcl_blast.specs.Inputs.{free_values, input_of}
use Rattle.tcl_blast.proofs.ModelInputs.{input_fits}
use Rattle.tcl_blast.proofs.inputs.input_of.Goals as goal

pub returns-clause-input : goal.returns-clause-input
unfolding input_of
returns-clause-input c =
    let p = c.args.ssa.now in
    c.in_ok-input.ensures
    ∙ ap (λ (ls : List Line). input_from ls c.as_slice-3.result.now) (c.as_slice-2.ensures ∙ c.lines.ensures.lines)
    ∙ ap (input_from p.lines) (c.as_slice-3.ensures ∙ c.in_ok-values.ensures ∙ ap (free_values p c.args.lemmas.now.items c.args.fact.now) c.as_slice.ensures)

pub returns-clause-fits : goal.returns-clause-fits
returns-clause-fits c =
    let p = c.args.ssa.now in
    subst (Fits (taken_types p.lines)) (sym (returns-clause-input c)) (input_fits p c.args.lemmas.now.items c.args.fact.now c.args.bits.now c.lines.ensures.well_formed)
