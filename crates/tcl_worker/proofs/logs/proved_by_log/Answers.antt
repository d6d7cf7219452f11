-- The kernel takes the log.
use Rattle.tcl_worker.proofs.Checks.{log_tells}
use Rattle.tcl_worker.proofs.logs.proved_by_log.Goals as goal

pub proof_of-requires-clause-checks : goal.proof_of-requires-clause-checks
proof_of-requires-clause-checks c =
    log_tells c.args.ssa.now c.args.earlier.now c.args.fact.now c.args.lines c.requires.formed c.requires.order c.requires.range c.requires.few c.requires.refutes
