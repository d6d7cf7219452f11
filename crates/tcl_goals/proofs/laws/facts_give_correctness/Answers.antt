-- Each law is a lemma.
use Rattle.tcl_goals.proofs.FactsGood.{facts_good, lemma_facts_are_sound}
use Rattle.tcl_goals.proofs.laws.facts_give_correctness.Goals as goal

pub returns-clause-correct : goal.returns-clause-correct
returns-clause-correct c = facts_good

pub returns-clause-sound : goal.returns-clause-sound
returns-clause-sound c = lemma_facts_are_sound
