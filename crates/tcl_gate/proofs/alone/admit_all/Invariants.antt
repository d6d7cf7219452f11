-- No goal so far may be admitted any more.
use Rattle.tcl_gate.specs.Alone.{Admits, NoneBelow}
use Rattle.tcl_gate.proofs.alone.admit_all.Given as goal

abbrev pub invariant-loop-goal : goal.invariant-loop-goal
invariant-loop-goal g l = record {
  admits : Admits g.E.Evidence.causes l.fn.board l.board;
  none : NoneBelow l.board.position l.goal;
}
