use Rattle.tcl_parse.proofs.TreeTerms as terms
use Rattle.tcl_parse.proofs.tree.terms.TermChained.opening.Goals as goal

pub returns-clause-exact : goal.returns-clause-exact
returns-clause-exact c = terms.bracket_first c.in_ok-inside.ensures
