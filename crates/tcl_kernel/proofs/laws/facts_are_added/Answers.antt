-- The laws are lemmas.
use Rattle.tcl_kernel.proofs.CitedLists.{cited_among, added_below}
use Rattle.tcl_kernel.proofs.laws.facts_are_added.Goals as goal

pub returns-clause-cited : goal.returns-clause-cited
returns-clause-cited c = cited_among

pub returns-clause-below : goal.returns-clause-below
returns-clause-below c = added_below
