-- The law is a lemma.
use Rattle.tcl_slice.proofs.WholeRuns.{whole_runs}
use Rattle.tcl_slice.proofs.laws.whole_assignments_run.Goals as goal

pub returns : goal.returns
returns c = whole_runs
