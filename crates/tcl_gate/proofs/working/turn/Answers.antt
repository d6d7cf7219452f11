use Rattle.tcl_gate.proofs.Turns.{given_held}
use Rattle.tcl_gate.proofs.working.turn.Goals as goal

pub work-requires-clause-lemmas : goal.work-requires-clause-lemmas
work-requires-clause-lemmas g c =
    given_held c.args.board.now (g.J.Job.program c.args.job.now) c.args.number c.args.piece.now c.in_ok-lemmas.lemmas.items c.requires.program c.requires.at
    c.in_ok-lemmas.ensures.given
