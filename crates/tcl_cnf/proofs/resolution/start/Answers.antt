use Rattle.std.proofs.Common.{arith}
use Rattle.tcl_cnf.proofs.ResolutionLemmas.{started}
use Rattle.tcl_cnf.proofs.resolution.start.Goals as goal

pub returns : goal.returns
returns c = started c.args.lits.now c.loop-lit.marks c.loop-lit.lit-index c.loop-lit.invariant (omega arith) c.requires.increasing
