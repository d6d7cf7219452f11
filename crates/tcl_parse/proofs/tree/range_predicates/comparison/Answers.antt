use Rattle.std.proofs.Common.{sym}
use Rattle.tcl_parse.proofs.TreePredicates as predicates
use Rattle.tcl_parse.proofs.tree.range_predicates.comparison.Goals as goal

pub returns-in_default-first_of-clause-exact : goal.returns-in_default-first_of-clause-exact
returns-in_default-first_of-clause-exact c =
    predicates.none_behind (rw c.in-Some.is at c.in_ok-left.ensures.exact) c.in_default-first_of.ensures

pub returns-in_default-comparison_of-clause-exact :
    goal.returns-in_default-comparison_of-clause-exact
returns-in_default-comparison_of-clause-exact c =
    predicates.none_compared (rw c.in-Some.is at c.in_ok-left.ensures.exact) c.in-Some-first_of.ensures
    (sym c.in_default-comparison_of.ensures)

pub returns-in_default-2-clause-exact : goal.returns-in_default-2-clause-exact
returns-in_default-2-clause-exact c =
    predicates.none_right (rw c.in-Some.is at c.in_ok-left.ensures.exact) c.in-Some-first_of.ensures
    (rw c.in_default-2.is at c.in_ok-right.ensures.exact)

pub returns-clause-exact : goal.returns-clause-exact
returns-clause-exact c =
    predicates.read_comparison (rw c.in-Some.is at c.in_ok-left.ensures.exact) c.in-Some-first_of.ensures
    (sym c.in-Some-comparison_of.ensures) (rw c.in-Some-2.is at c.in_ok-right.ensures.exact)
