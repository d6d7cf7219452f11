-- Each law is a lemma.
use Rattle.tcl_blast.proofs.Countermodels.{denials_meet, refuted_prove}
use Rattle.tcl_blast.proofs.laws.denials_meet_clauses.Goals as goal

pub returns-clause-meet : goal.returns-clause-meet
returns-clause-meet c = denials_meet

pub returns-clause-prove : goal.returns-clause-prove
returns-clause-prove c = refuted_prove
