use Rattle.tests_gate.proofs.job.Script.ended.Goals as goal

pub returns-in-End : goal.returns-in-End
returns-in-End c = c.spent.ensures c.args.self.now.ssa c.args.piece.now c.args.lemmas.now
