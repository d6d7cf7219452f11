use Rattle.tests_gate.proofs.giving.lemma.Goals as goal

pub returns-then-not-has_goal : goal.returns-then-not-has_goal
returns-then-not-has_goal c = c.spent.ensures c.args.ssa.now c.args.piece.now c.args.lemmas.now

pub returns-in-None : goal.returns-in-None
returns-in-None c = c.spent-in-None.ensures c.args.ssa.now c.args.piece.now c.args.lemmas.now
