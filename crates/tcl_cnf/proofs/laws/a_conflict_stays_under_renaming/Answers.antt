use Rattle.tcl_cnf.proofs.Renames.{conflict_renamed}
use Rattle.tcl_cnf.proofs.laws.a_conflict_stays_under_renaming.Goals as goal

pub returns : goal.returns
returns c = conflict_renamed
