-- Each law is a lemma.
use Rattle.tcl_kernel.proofs.CutModels.{models_cut, denials_cut}
use Rattle.tcl_kernel.proofs.laws.cut_models_are_true.Goals as goal

pub returns-clause-models : goal.returns-clause-models
returns-clause-models c = models_cut c.models_are_assignments.ensures

pub returns-clause-denials : goal.returns-clause-denials
returns-clause-denials c = denials_cut
