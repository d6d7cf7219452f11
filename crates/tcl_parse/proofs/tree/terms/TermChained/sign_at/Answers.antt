use Rattle.tcl_parse.proofs.TreeTerms as terms
use Rattle.tcl_parse.proofs.tree.terms.TermChained.sign_at.Goals as goal

pub returns-clause-exact : goal.returns-clause-exact
returns-clause-exact c = terms.sign_first c.in_ok-behind.ensures
