-- The kernel's answer on a copy of the fact is that on the fact.
use Rattle.tcl_worker.proofs.Checks.{taken_here, refused_here}
use Rattle.tcl_worker.proofs.checking.shown.Goals as goal

pub returns-in-Proof : goal.returns-in-Proof
returns-in-Proof c =
    taken_here c.args.ssa.now c.args.earlier.now c.args.fact.now c.in_ok-copy.field-0 c.args.cert c.in-Proof.proof
    c.in_ok-copy.ensures.copy c.in-Proof.ensures.0 c.in-Proof.ensures.1

pub returns-in-Bad : goal.returns-in-Bad
returns-in-Bad c =
    refused_here c.args.ssa.now c.args.earlier.now c.args.fact.now c.in_ok-copy.field-0 c.args.cert c.in-Bad.field-0
    c.in_ok-copy.ensures.copy c.in-Bad.ensures
