-- The law is a lemma.
use Rattle.tcl_pivots.proofs.Showing as lemmas
use Rattle.tcl_pivots.proofs.laws.cofactors_show.Goals as goal

pub returns : goal.returns
returns c = lemmas.cofactors_show
