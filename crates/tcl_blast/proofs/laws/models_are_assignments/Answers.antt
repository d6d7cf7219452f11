-- The law is a lemma.
use Rattle.tcl_blast.proofs.Modelled.{models}
use Rattle.tcl_blast.proofs.laws.models_are_assignments.Goals as goal

pub returns : goal.returns
returns c = models
