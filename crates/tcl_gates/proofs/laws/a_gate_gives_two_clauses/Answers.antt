use Rattle.tcl_gates.proofs.Counts.{two_clauses}
use Rattle.tcl_gates.proofs.laws.a_gate_gives_two_clauses.Goals as goal

pub returns : goal.returns
returns c = two_clauses
