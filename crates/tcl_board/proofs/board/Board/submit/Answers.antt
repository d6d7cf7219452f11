use Rattle.tcl_board.proofs.Giving.{held_here}
use Rattle.tcl_board.proofs.Gifts.{outcome_given}
use Rattle.tcl_board.proofs.board.Board.submit.Goals as goal

pub judged-judged-requires : goal.judged-judged-requires
judged-judged-requires g c = held_here _ _ _ c.args.worker c.in-Some.piece _ c.self.view_is c.self.invariant.0 c.held_number.ensures c.in-Some.is

pub record-requires-clause-taken : goal.record-requires-clause-taken
record-requires-clause-taken g c =
    outcome_given c.fact_laws.ensures g.E.Evidence.causes c.args.self.now c.args.worker c.in-Some.piece c.in-Gives.word g.E.Evidence.program g.E.Evidence.cited g.E.Evidence.alone g.E.Evidence.shows c.args.outcome _ _
    c.held_number.ensures c.in-Some.is c.requires.speaks c.judged-judged.ensures.holds c.requires.truthful c.judged-judged.ensures.judged c.in-Gives.is
