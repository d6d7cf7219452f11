-- Sameness is what the test decides.
use Rattle.tcl_kernel.proofs.CaseLists.{claims_told}
use Rattle.tcl_kernel.proofs.cases.same_claim.Goals as goal

pub returns : goal.returns
returns c = claims_told c.same.result c.args.a.now c.args.b.now c.same.ensures.same
