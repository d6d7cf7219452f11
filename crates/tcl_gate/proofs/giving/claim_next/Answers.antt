use Rattle.tcl_gate.proofs.Holding.{free_of, claim_found}
use Rattle.tcl_gate.proofs.giving.claim_next.Goals as goal

pub claim-requires-clause-free : goal.claim-requires-clause-free
claim-requires-clause-free g c = free_of c.args.board.now.position 0 c.requires

pub returns : goal.returns
returns g c = claim_found g.E.Evidence.causes c.args.board.now c.claim.new.self c.claim.result c.requires c.claim.ensures.piece c.claim.ensures.step
