-- The law is a lemma.
use Rattle.tcl_term_poly.proofs.Agreement as lemmas
use Rattle.tcl_term_poly.proofs.laws.terms_agree.Goals as goal

pub returns : goal.returns
returns c = lemmas.terms_agree
