use Rattle.tcl_parse.proofs.TreePredicates as predicates
use Rattle.tcl_parse.proofs.tree.range_predicates.RngPredChained.sign_at.Goals as goal

pub returns-clause-exact : goal.returns-clause-exact
returns-clause-exact c = predicates.sign_first c.in_ok-behind.ensures
