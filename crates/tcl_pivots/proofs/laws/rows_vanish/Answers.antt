-- The law is a lemma.
use Rattle.tcl_pivots.proofs.Vanishing as lemmas
use Rattle.tcl_pivots.proofs.laws.rows_vanish.Goals as goal

pub returns : goal.returns
returns c = lemmas.rows_vanish
