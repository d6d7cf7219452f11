use Rattle.tcl_cnf.proofs.Chains.{chain_follows}
use Rattle.tcl_cnf.proofs.laws.chains_follow.Goals as goal

pub returns : goal.returns
returns c = chain_follows
