use Rattle.tcl_parse.proofs.TreeRangeTerms as terms
use Rattle.tcl_parse.proofs.tree.range_terms.RngTermChained.bracketed.Goals as goal

pub returns-clause-exact : goal.returns-clause-exact
returns-clause-exact c ts us o d = terms.read_casted (rw c.in-Some.is at o) d c.in_ok-new.ensures

pub returns-in_default-clause-exact : goal.returns-in_default-clause-exact
returns-in_default-clause-exact c ts us o d = terms.read_opened (rw c.in_default.is at o) d
