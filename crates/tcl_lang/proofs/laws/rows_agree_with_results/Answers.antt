-- The law is a lemma.
use Rattle.tcl_lang.proofs.StepLaw.{rows_agree}
use Rattle.tcl_lang.proofs.laws.rows_agree_with_results.Goals as goal

pub returns : goal.returns
returns c = rows_agree
