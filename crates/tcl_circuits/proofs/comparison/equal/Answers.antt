use Rattle.tcl_circuits.specs.Circuits.{equal}
use Rattle.tcl_circuits.proofs.Values.{equal_lit}
use Rattle.tcl_circuits.proofs.comparison.equal.Goals as goal

pub returns-clause-value : goal.returns-clause-value
unfolding equal
returns-clause-value c = equal_lit c.args.gates.now c.chain.new.gates c.args.a.now c.args.b.now c.in_ok-last.last c.requires.first c.requires.second c.in_ok-last.ensures.made c.in_ok-last.ensures.lit
