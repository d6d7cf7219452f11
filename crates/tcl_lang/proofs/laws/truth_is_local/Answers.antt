-- Each law is a lemma.
use Rattle.tcl_lang.proofs.Locality.{line_local, line_computed_local}
use Rattle.tcl_lang.proofs.laws.truth_is_local.Goals as goal

pub returns-clause-truth : goal.returns-clause-truth
returns-clause-truth c = line_local

pub returns-clause-computed : goal.returns-clause-computed
returns-clause-computed c = line_computed_local
