use Rattle.tcl_board.specs.Sight.{seen_of}
use Rattle.tcl_gate.proofs.Turns.{submit_turn}
use Rattle.tcl_gate.proofs.giving.submit.Goals as goal

pub returns : goal.returns
returns g c =
    submit_turn g.E.Evidence.causes c.args.board.now c.submit.new.self c.args.piece (seen_of g.E.Evidence.shows g.E.Evidence.cited c.args.outcome)
    c.known.ensures c.known-2.ensures c.requires.held c.requires.fits c.submit.ensures.step
