-- The law is a lemma.
use Rattle.tcl_bounds.proofs.Enclosing.{bounds_enclose}
use Rattle.tcl_bounds.proofs.laws.assignments_lie_in_bounds.Goals as goal

pub returns : goal.returns
returns c = bounds_enclose
