use Rattle.tcl_parse.proofs.TreeOperands.{literal_at}
use Rattle.tcl_parse.proofs.tree.operands.literal.Goals as goal

pub returns-clause-exact : goal.returns-clause-exact
returns-clause-exact c = literal_at c.in_ok-ty.ensures c.lit.ensures
