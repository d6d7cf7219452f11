use Rattle.tests_gate.proofs.giving.broken.Goals as goal

pub returns-then-goal-piece : goal.returns-then-goal-piece
returns-then-goal-piece c = c.spent.ensures c.args.ssa.now c.args.piece.now c.args.lemmas.now

pub returns-in-None : goal.returns-in-None
returns-in-None c = c.spent-in-None.ensures c.args.ssa.now c.args.piece.now c.args.lemmas.now
