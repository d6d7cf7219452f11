-- The law is a lemma.
use Rattle.tcl_lang.proofs.TruthLaw.{agrees_reads}
use Rattle.tcl_lang.proofs.laws.tests_agree_with_equations.Goals as goal

pub returns : goal.returns
returns c = agrees_reads
