use Rattle.tcl_cnf.proofs.Freshness.{met_no_conflict}
use Rattle.tcl_cnf.proofs.laws.no_conflict_with_a_solution.Goals as goal

pub returns : goal.returns
returns c = met_no_conflict
