use Rattle.tcl_parse.proofs.TreeAnswers.{mapped}
use Rattle.tcl_parse.proofs.TreePredicates as predicates
use Rattle.tcl_parse.proofs.tree.range_predicates.RngPredChained.unbracketed.Goals as goal

pub returns-in_default-clause-exact : goal.returns-in_default-clause-exact
returns-in_default-clause-exact c =
    mapped c.comparison.result c.comparison.ensures.exact (predicates.none_primary c.in_default.ensures.exact c.requires)
    (λ r h. predicates.read_compared h)

pub returns-then-begins_with_word_operator-clause-exact : goal.returns-then-begins_with_word_operator-clause-exact
returns-then-begins_with_word_operator-clause-exact c =
    predicates.none_behind_truth c.in-Some.ensures.exact c.if-begins_with_word_operator.ensures

pub returns-clause-exact : goal.returns-clause-exact
returns-clause-exact c = predicates.read_truth c.in-Some.ensures.exact c.if-begins_with_word_operator.ensures
