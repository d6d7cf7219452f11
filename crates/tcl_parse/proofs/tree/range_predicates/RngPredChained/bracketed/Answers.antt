use Rattle.tcl_parse.proofs.TreePredicates as predicates
use Rattle.tcl_parse.proofs.tree.range_predicates.RngPredChained.bracketed.Goals as goal

pub returns-then-begins_with_word_operator-clause-exact : goal.returns-then-begins_with_word_operator-clause-exact
returns-then-begins_with_word_operator-clause-exact c ts us o d =
    predicates.none_behind_square o d c.if-begins_with_word_operator.ensures

pub returns-clause-exact : goal.returns-clause-exact
returns-clause-exact c ts us o d = predicates.read_squared o d c.if-begins_with_word_operator.ensures
