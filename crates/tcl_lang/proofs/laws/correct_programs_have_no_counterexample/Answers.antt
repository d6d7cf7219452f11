-- Each law is a lemma.
use Rattle.tcl_lang.proofs.Correctness.{correct_means, counterexample_once}
use Rattle.tcl_lang.proofs.laws.correct_programs_have_no_counterexample.Goals as goal

pub returns-clause-correct : goal.returns-clause-correct
returns-clause-correct c = correct_means

pub returns-clause-once : goal.returns-clause-once
returns-clause-once c = counterexample_once
