-- The law is a lemma.
use Rattle.tcl_reduce.proofs.Remainders as lemmas
use Rattle.tcl_reduce.proofs.laws.quotients_divide.Goals as goal

pub returns : goal.returns
returns c = lemmas.quotients_divide
