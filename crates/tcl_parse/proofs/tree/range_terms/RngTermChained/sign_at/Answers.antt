use Rattle.tcl_parse.proofs.TreeRangeTerms as terms
use Rattle.tcl_parse.proofs.tree.range_terms.RngTermChained.sign_at.Goals as goal

pub returns-in-Some-clause-exact : goal.returns-in-Some-clause-exact
returns-in-Some-clause-exact c = terms.minus_first c.in-Some.ensures

pub returns-in_default-behind_sign-clause-exact : goal.returns-in_default-behind_sign-clause-exact
returns-in_default-behind_sign-clause-exact c = terms.no_sign c.in_default.ensures c.in_default-behind_sign.ensures

pub returns-clause-exact : goal.returns-clause-exact
returns-clause-exact c = terms.flip_first c.in-Some-behind_sign.ensures
