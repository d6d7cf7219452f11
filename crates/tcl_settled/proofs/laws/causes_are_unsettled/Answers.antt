-- The law is a lemma.
use Rattle.tcl_settled.proofs.Unsettled.{causes_unsettled}
use Rattle.tcl_settled.proofs.laws.causes_are_unsettled.Goals as goal

pub returns : goal.returns
returns c = causes_unsettled
