-- What the kernel says of a proof is what the board asks of evidence.
use Rattle.tcl_kernel.proofs.BoardEvidence.{shown_holds}
use Rattle.tcl_kernel.proofs.evidence.ProofEvidence.shown.Goals as goal

pub returns-clause-holds : goal.returns-clause-holds
returns-clause-holds c = shown_holds _ _ _ c.shown.ensures.holds
