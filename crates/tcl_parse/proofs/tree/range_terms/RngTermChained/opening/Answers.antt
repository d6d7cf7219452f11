use Rattle.tcl_parse.proofs.TreeRangeTerms as terms
use Rattle.tcl_parse.proofs.tree.range_terms.RngTermChained.opening.Goals as goal

pub returns-in-Some-clause-exact : goal.returns-in-Some-clause-exact
returns-in-Some-clause-exact c = terms.bracket_first c.in-Some.ensures

pub returns-in_default-cast_at-clause-exact : goal.returns-in_default-cast_at-clause-exact
returns-in_default-cast_at-clause-exact c = terms.no_bracket c.in_default.ensures c.in_default-cast_at.ensures

pub returns-clause-exact : goal.returns-clause-exact
returns-clause-exact c = terms.cast_first c.in-Some-cast_at.ensures
