-- The law is a lemma.
use Rattle.tcl_settled.proofs.Unsettled.{settled_hold}
use Rattle.tcl_settled.proofs.laws.settled_facts_hold.Goals as goal

pub returns : goal.returns
returns c = settled_hold
