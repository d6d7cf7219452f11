-- Each law is a lemma.
use Rattle.tcl_lang.proofs.TruthLaw.{line_yes, line_no}
use Rattle.tcl_lang.proofs.Narrowness.{narrow_told}
use Rattle.tcl_lang.proofs.laws.computed_truth_is_true.Goals as goal

pub returns-clause-yes : goal.returns-clause-yes
returns-clause-yes c = line_yes

pub returns-clause-no : goal.returns-clause-no
returns-clause-no c = line_no

pub returns-clause-narrow : goal.returns-clause-narrow
returns-clause-narrow c = narrow_told
