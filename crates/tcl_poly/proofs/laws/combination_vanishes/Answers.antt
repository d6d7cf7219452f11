-- The law is a lemma.
use Rattle.tcl_poly.proofs.CombinationLaws as lemmas
use Rattle.tcl_poly.proofs.laws.combination_vanishes.Goals as goal

pub returns : goal.returns
returns c = lemmas.combination_vanishes
