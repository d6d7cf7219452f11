-- Each law is a lemma.
use Rattle.tcl_blast.proofs.ModelRuns.{models_run, unnamed_zero, later_zero}
use Rattle.tcl_blast.proofs.laws.models_run.Goals as goal

pub returns-clause-run : goal.returns-clause-run
returns-clause-run c = models_run

pub returns-clause-unnamed : goal.returns-clause-unnamed
returns-clause-unnamed c = unnamed_zero

pub returns-clause-later : goal.returns-clause-later
returns-clause-later c = later_zero
