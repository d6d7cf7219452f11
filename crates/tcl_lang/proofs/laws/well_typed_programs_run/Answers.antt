-- Each law is a lemma.
use Rattle.tcl_lang.proofs.TypedRuns.{shape_runnable, runs_typed}
use Rattle.tcl_lang.proofs.laws.well_typed_programs_run.Goals as goal

pub returns-clause-runnable : goal.returns-clause-runnable
returns-clause-runnable c = shape_runnable

pub returns-clause-typed : goal.returns-clause-typed
returns-clause-typed c = runs_typed
