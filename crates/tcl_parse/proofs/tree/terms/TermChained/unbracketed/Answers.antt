use Rattle.tcl_parse.proofs.TreeOperands.{begins}
use Rattle.tcl_parse.proofs.TreeTerms as terms
use Rattle.tcl_parse.proofs.tree.terms.TermChained.unbracketed.Goals as goal

pub returns-in_default-clause-exact : goal.returns-in_default-clause-exact
returns-in_default-clause-exact c = terms.none_at_end c.in_default.ensures

pub returns-in-Name-clause-exact : goal.returns-in-Name-clause-exact
returns-in-Name-clause-exact c = c.powered.ensures.exact _ (terms.name_first (begins c.in-Some.ensures c.in-Name.is))

pub returns-in-Number-clause-exact : goal.returns-in-Number-clause-exact
returns-in-Number-clause-exact c =
    c.powered-in-Number.ensures.exact _ (terms.number_first (begins c.in-Some.ensures c.in-Number.is) c.number.ensures)

pub returns-in_default-first : goal.returns-in_default-first
returns-in_default-first c = record {
  exact = terms.no_primary c.requires c.in-Some.ensures c.in_default-first.not-Name c.in_default-first.not-Number;
  shorter = tt;
}
