-- The law is a lemma.
use Rattle.tcl_pivots.proofs.Searching as lemmas
use Rattle.tcl_pivots.proofs.laws.open_is_apart.Goals as goal

pub returns : goal.returns
returns c = lemmas.open_is_apart
