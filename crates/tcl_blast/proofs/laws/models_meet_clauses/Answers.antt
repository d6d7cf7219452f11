-- The law is a lemma.
use Rattle.tcl_blast.proofs.Countermodels.{models_meet}
use Rattle.tcl_blast.proofs.laws.models_meet_clauses.Goals as goal

pub returns : goal.returns
returns c = models_meet
