use Rattle.tcl_parse.proofs.TreePredicates.{truth_first, falsity_first}
use Rattle.tcl_parse.proofs.tree.range_predicates.truth_at.Goals as goal

pub returns-in-True-clause-exact : goal.returns-in-True-clause-exact
returns-in-True-clause-exact c = truth_first c.in_ok-first.ensures c.in-Reserved.is c.in-True.is

pub returns-in-False-clause-exact : goal.returns-in-False-clause-exact
returns-in-False-clause-exact c = falsity_first c.in_ok-first.ensures c.in-Reserved.is c.in-False.is
