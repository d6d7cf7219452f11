use Rattle.tcl_cnf.proofs.Freshness.{no_conflict}
use Rattle.tcl_cnf.proofs.laws.no_fresh_clause_after_a_conflict.Goals as goal

pub returns : goal.returns
returns c = λ clauses d conflict fresh. no_conflict clauses d fresh conflict
