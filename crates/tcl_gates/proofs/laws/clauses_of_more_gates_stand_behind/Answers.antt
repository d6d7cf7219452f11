use Rattle.tcl_gates.proofs.Appending.{clauses_of-append}
use Rattle.tcl_gates.proofs.laws.clauses_of_more_gates_stand_behind.Goals as goal

pub returns : goal.returns
returns c = clauses_of-append
