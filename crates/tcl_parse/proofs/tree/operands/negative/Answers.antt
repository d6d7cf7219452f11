use Rattle.tcl_parse.proofs.TreeOperands.{negative_at, begins}
use Rattle.tcl_parse.proofs.tree.operands.negative.Goals as goal

pub returns-clause-exact : goal.returns-clause-exact
returns-clause-exact c =
    negative_at (begins c.in_ok-first.ensures c.in-Number.is) c.in_ok-ty.ensures c.if-not-is_above_zero.ensures
    c.lit_below.ensures
