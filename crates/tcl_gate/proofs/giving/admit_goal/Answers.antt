use Rattle.tcl_board.specs.declared.event.Admitted.TheVariants as admitted
use Rattle.tcl_gate.proofs.Turns.{admits_if}
use Rattle.tcl_gate.proofs.Finishing.{none_below}
use Rattle.tcl_gate.proofs.giving.admit_goal.Goals as goal

pub returns-clause-admits : goal.returns-clause-admits
returns-clause-admits g c = admits_if g.E.Evidence.causes c.admit.result c.args.board.now c.admit.new.self (admitted.Goal c.args.goal) c.admit.ensures.answer c.admit.ensures.step

pub returns-clause-none : goal.returns-clause-none
returns-clause-none g c = none_below c.admit.result c.args.board.now c.admit.new.self c.args.goal c.admit.ensures.answer c.admit.ensures.step
