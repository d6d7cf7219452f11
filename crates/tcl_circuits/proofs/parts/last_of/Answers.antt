use Rattle.tcl_circuits.specs.Circuits.{last_lit}
use Rattle.tcl_circuits.proofs.Loops.{last_more}
use Rattle.tcl_circuits.proofs.parts.last_of.Goals as goal

pub loop-k-preserved : goal.loop-k-preserved
loop-k-preserved c = last_more c.loop-k.last c.args.a.now (last_lit 1 c.args.a.now) c.loop-k.k c.at-last.result.now c.at-last.ensures c.loop-k.invariant
