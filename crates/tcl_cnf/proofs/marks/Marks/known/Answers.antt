use Rattle.std.proofs.Common.{subst}
use Rattle.tcl_cnf.specs.Clause.{IsIncreasing}
use Rattle.tcl_cnf.proofs.MarkLemmas.{increasing-marked}
use Rattle.tcl_cnf.proofs.marks.Marks.known.Goals as goal

pub returns : goal.returns
returns c = subst IsIncreasing c.self.view_is (increasing-marked c.self.inside.table.items)
