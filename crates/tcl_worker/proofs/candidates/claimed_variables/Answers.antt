-- The fact that has the claim alone names its variables.
use Rattle.tcl_worker.proofs.HighestBits.{claim_told}
use Rattle.tcl_worker.proofs.candidates.claimed_variables.Goals as goal

pub returns : goal.returns
returns c =
    claim_told c.args.ssa.now c.args.claim.now c.in_ok-copy.field-0 _ _ _ _ c.fact_variables.result c.in_ok-copy.ensures.copy
    c.new.ensures c.new-2.ensures c.new-3.ensures c.fact_variables.ensures
