use Rattle.tcl_parse.proofs.TreeTerms as terms
use Rattle.tcl_parse.proofs.tree.terms.TermChained.bracketed.Goals as goal

pub returns-clause-exact : goal.returns-clause-exact
returns-clause-exact c ts us o d = c.powered.ensures.exact ts (terms.read_opened o d)
