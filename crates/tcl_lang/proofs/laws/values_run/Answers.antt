-- Each law is a lemma.
use Rattle.tcl_lang.proofs.ValueRuns.{values_run}
use Rattle.tcl_lang.proofs.ValueTypes.{runs_are_values}
use Rattle.tcl_lang.proofs.ValueSteps.{trace_words, trace_values, trace_truth, trace_computed}
use Rattle.tcl_lang.proofs.laws.values_run.Goals as goal

pub returns-clause-values : goal.returns-clause-values
returns-clause-values c = values_run

pub returns-clause-ends : goal.returns-clause-ends
returns-clause-ends c = trace_words

pub returns-clause-typed : goal.returns-clause-typed
returns-clause-typed c = trace_values

pub returns-clause-truth : goal.returns-clause-truth
returns-clause-truth c = trace_truth

pub returns-clause-computed : goal.returns-clause-computed
returns-clause-computed c = trace_computed

pub returns-clause-before : goal.returns-clause-before
returns-clause-before c = runs_are_values
