use Rattle.tcl_gate.proofs.Turns.{admits_if}
use Rattle.tcl_gate.proofs.giving.admit.Goals as goal

pub returns : goal.returns
returns g c = admits_if g.E.Evidence.causes c.admit.result c.args.board.now c.admit.new.self c.args.what c.admit.ensures.answer c.admit.ensures.step
