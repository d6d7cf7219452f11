use Rattle.tcl_sat.specs.State.{IsRunning}
use Rattle.tcl_sat.proofs.solver.Solver.run.Given as goal

abbrev pub invariant-loop-learnt : goal.invariant-loop-learnt
invariant-loop-learnt g l =
    IsRunning l.fn.self.log.clauses l.self.log l.self.trail l.learnt l.left l.round (g.P.Port.polls l.fn.port) (g.P.Port.polls l.port) (g.P.Port.cancels l.fn.port) (g.P.Port.cancels l.port)
