-- The law of models.
use Rattle.std.proofs.Common.{◌∙◌, ap}
use Rattle.tcl_kernel.specs.Earlier.{Earlier}
use Rattle.tcl_worker.proofs.ModelInputs.{told_input}
use Rattle.tcl_worker.proofs.models.model_input.Goals as goal

pub returns : goal.returns
returns c =
    told_input c.args.ssa.now c.args._budget c.args.piece.now c.lemmas.result.now.items c.args.fact.now c.args.bits.now c.input_of.result
    c.requires.formed c.requires.piece c.requires.whole (c.lemmas.ensures ∙ ap (λ (e : Earlier). e.lemmas) c.requires.earlier)
    c.requires.fact c.requires.model c.input_of.ensures.input c.input_of.ensures.fits
