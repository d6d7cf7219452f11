use Rattle.tcl_parse.proofs.TreeTerms as terms
use Rattle.tcl_parse.proofs.tree.terms.powered.Goals as goal

pub returns-in_default-clause-exact : goal.returns-in_default-clause-exact
returns-in_default-clause-exact c ts p = terms.unpowered p c.in_default.ensures

pub returns-in_default-number_at-clause-exact : goal.returns-in_default-number_at-clause-exact
returns-in_default-number_at-clause-exact c ts p = terms.no_exponent p c.in-Some.ensures c.in_default-number_at.ensures

pub returns-then-begins_with_power-clause-exact : goal.returns-then-begins_with_power-clause-exact
returns-then-begins_with_power-clause-exact c ts p =
    terms.two_exponents p c.in-Some.ensures c.in-Some-number_at.ensures c.if-begins_with_power.ensures

pub returns-clause-exact : goal.returns-clause-exact
returns-clause-exact c ts p =
    terms.one_exponent p c.in-Some.ensures c.in-Some-number_at.ensures c.if-begins_with_power.ensures c.in_ok-new.ensures
    c.capped.ensures
