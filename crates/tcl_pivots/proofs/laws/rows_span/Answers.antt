-- The law is a lemma.
use Rattle.tcl_pivots.proofs.Trying as lemmas
use Rattle.tcl_pivots.proofs.laws.rows_span.Goals as goal

pub returns : goal.returns
returns c = lemmas.rows_span
