-- The law is a lemma.
use Rattle.tcl_lang.proofs.TruthLaw.{checked_refutes}
use Rattle.tcl_lang.proofs.laws.checked_counterexamples_refute.Goals as goal

pub returns : goal.returns
returns c = checked_refutes
