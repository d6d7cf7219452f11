use Rattle.std.proofs.Common.{subst}
use Rattle.tcl_cnf.specs.Log.{IsLog}
use Rattle.tcl_cnf.proofs.LogLemmas.{log_follows}
use Rattle.tcl_cnf.proofs.log.Log.known.Goals as goal

pub returns-clause-follows : goal.returns-clause-follows
returns-clause-follows c = log_follows c.args.self.now (subst IsLog c.self.view_is c.self.invariant.0)
