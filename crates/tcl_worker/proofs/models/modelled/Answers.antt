-- A model of a cut piece is its cause.
use Rattle.tcl_worker.proofs.Gifts.{cut_model_outcome}
use Rattle.tcl_worker.proofs.models.modelled.Goals as goal

pub returns-in-Cut-clause-outcome : goal.returns-in-Cut-clause-outcome
returns-in-Cut-clause-outcome c =
    cut_model_outcome c.cut_models_are_true.ensures.models c.args.ssa.now c.args.budget c.args.piece.now c.args.bits.now
    c.requires.formed c.requires.piece c.in-Cut.is c.requires.model
