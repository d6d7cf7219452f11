-- The law is a lemma.
use Rattle.tcl_reduce.proofs.Remainders as lemmas
use Rattle.tcl_reduce.proofs.laws.reductions_keep.Goals as goal

pub returns : goal.returns
returns c = lemmas.reductions_keep
