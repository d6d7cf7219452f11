use Rattle.tcl_parse.proofs.TreeRangeTerms as terms
use Rattle.tcl_parse.proofs.tree.range_terms.RngTermChained.unbracketed.Goals as goal

pub returns-in_default-clause-exact : goal.returns-in_default-clause-exact
returns-in_default-clause-exact c = terms.no_leaf c.requires c.in_default.ensures.exact

pub returns-clause-exact : goal.returns-clause-exact
returns-clause-exact c = terms.read_leaf c.in-Some.ensures.exact
