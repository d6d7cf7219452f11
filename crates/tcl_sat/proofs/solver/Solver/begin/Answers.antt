use Rattle.tcl_sat.proofs.Jumps.{state_begun}
use Rattle.tcl_sat.proofs.solver.Solver.begin.Goals as goal

pub returns : goal.returns
returns c = state_begun c.args.cnf.now c.in_ok-copy.field-0 c.begin-log.result c.in_ok-trail.trail c.in_ok-copy.ensures c.begin-log.ensures c.in_ok-trail.ensures
