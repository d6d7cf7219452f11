use Rattle.std.proofs.Common.{arith}
use Rattle.tcl_gate.proofs.Turns.{admits_none, admits_trans}
use Rattle.tcl_gate.proofs.alone.admit_all.Goals as goal

pub loop-goal-init : goal.loop-goal-init
loop-goal-init g c = record { admits = admits_none g.E.Evidence.causes c.args.board.now; none = λ h less. absurd (omega (arith, less)) }

pub loop-goal-preserved : goal.loop-goal-preserved
loop-goal-preserved g c =
    record {
      admits = admits_trans g.E.Evidence.causes c.args.board.now c.loop-goal.board c.admit_goal.new.board c.loop-goal.invariant.admits c.admit_goal.ensures.admits;
      none = c.admit_goal.ensures.none c.loop-goal.invariant.none;
    }
