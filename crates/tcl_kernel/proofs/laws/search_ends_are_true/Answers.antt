-- Each law is a lemma.
use Rattle.tcl_kernel.proofs.SearchEnds.{logs_spent, clauses_large, outcomes_caused}
use Rattle.tcl_kernel.proofs.laws.search_ends_are_true.Goals as goal

pub returns-clause-logs : goal.returns-clause-logs
returns-clause-logs c = logs_spent

pub returns-clause-clauses : goal.returns-clause-clauses
returns-clause-clauses c = clauses_large

pub returns-clause-reductions : goal.returns-clause-reductions
returns-clause-reductions c = outcomes_caused
