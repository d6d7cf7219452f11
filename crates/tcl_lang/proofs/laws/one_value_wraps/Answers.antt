-- The law is a lemma.
use Rattle.tcl_lang.proofs.StepLaw.{one_wrap}
use Rattle.tcl_lang.proofs.laws.one_value_wraps.Goals as goal

pub returns : goal.returns
returns c = one_wrap
