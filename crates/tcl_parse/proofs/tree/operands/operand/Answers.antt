use Rattle.tcl_parse.proofs.TreeOperands.{name_at, begins}
use Rattle.tcl_parse.proofs.tree.operands.operand.Goals as goal

pub returns-in-Name-clause-exact : goal.returns-in-Name-clause-exact
returns-in-Name-clause-exact c = name_at (begins c.in_ok-first.ensures c.in-Name.is)
