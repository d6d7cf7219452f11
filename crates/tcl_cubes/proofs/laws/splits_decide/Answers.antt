-- The law is a lemma.
use Rattle.tcl_cubes.proofs.Splitting.{splits_decide}
use Rattle.tcl_cubes.proofs.laws.splits_decide.Goals as goal

pub returns : goal.returns
returns c = splits_decide
