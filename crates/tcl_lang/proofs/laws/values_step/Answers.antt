-- Each law is a lemma.
use Rattle.tcl_lang.proofs.ValueSteps.{values_hold, values_execute, step_executes, step_keeps_types}
use Rattle.tcl_lang.proofs.ValueRuns.{step_others}
use Rattle.tcl_lang.proofs.laws.values_step.Goals as goal

pub returns-clause-words : goal.returns-clause-words
returns-clause-words c = values_hold

pub returns-clause-executable : goal.returns-clause-executable
returns-clause-executable c = values_execute

pub returns-clause-executes : goal.returns-clause-executes
returns-clause-executes c = step_executes

pub returns-clause-typed : goal.returns-clause-typed
returns-clause-typed c = step_keeps_types

pub returns-clause-others : goal.returns-clause-others
returns-clause-others c = step_others
