-- Each law is a lemma.
use Rattle.tcl_lang.proofs.RunSteps.{run_follows, run_takes, run_others}
use Rattle.tcl_lang.proofs.laws.runs_follow_rows.Goals as goal

pub returns-clause-rows : goal.returns-clause-rows
returns-clause-rows c = run_follows

pub returns-clause-inputs : goal.returns-clause-inputs
returns-clause-inputs c = run_takes

pub returns-clause-others : goal.returns-clause-others
returns-clause-others c = run_others
