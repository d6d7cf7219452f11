-- The kernel takes what the walk found.
use Rattle.tcl_kernel.specs.declared.certificate.Cert.TheVariants as cert
use Rattle.tcl_worker.proofs.Checks.{walk_tells, begun_tells, begun_proves}
use Rattle.tcl_worker.proofs.Walks.{walk_is_taken}
use Rattle.tcl_worker.proofs.walking.held.Goals as goal

pub proof_of-requires-clause-checks : goal.proof_of-requires-clause-checks
proof_of-requires-clause-checks c =
    begun_tells c.args.ssa.now c.args.earlier.now c.args.fact.now cert.Enumerated c.requires.earlier
    (walk_tells c.args.ssa.now c.args.fact.now c.requires.order (walk_is_taken c.args.ssa.now c.args.fact.now c.requires.few c.requires.all))

pub returns : goal.returns
returns c =
    begun_proves c.args.ssa.now c.args.earlier.now c.args.fact.now c.proof_of.result c.requires.earlier c.requires.order c.proof_of.ensures
