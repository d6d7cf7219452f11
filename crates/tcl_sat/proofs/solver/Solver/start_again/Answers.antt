use Rattle.std.proofs.Common.{refl}
use Rattle.tcl_sat.proofs.Jumps.{state_again}
use Rattle.tcl_sat.proofs.solver.Solver.start_again.Goals as goal

pub returns-in_ok-release_above-clause-state : goal.returns-in_ok-release_above-clause-state
returns-in_ok-release_above-clause-state c = state_again c.args.self.now.log c.args.self.now.log c.args.self.now.trail c.back_to.new.self refl c.back_to.ensures c.requires
