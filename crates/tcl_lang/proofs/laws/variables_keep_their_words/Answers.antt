-- Each law is a lemma.
use Rattle.tcl_lang.proofs.FormEnds.{keeps, end_truth, end_computed, end_executed, end_typed}
use Rattle.tcl_lang.proofs.laws.variables_keep_their_words.Goals as goal

pub returns-clause-keep : goal.returns-clause-keep
returns-clause-keep c = keeps

pub returns-clause-truth : goal.returns-clause-truth
returns-clause-truth c = end_truth

pub returns-clause-computed : goal.returns-clause-computed
returns-clause-computed c = end_computed

pub returns-clause-executed : goal.returns-clause-executed
returns-clause-executed c = end_executed

pub returns-clause-typed : goal.returns-clause-typed
returns-clause-typed c = end_typed
