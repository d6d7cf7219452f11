use Rattle.std.proofs.Common.{arith, take}
use Rattle.tcl_trail.specs.Assignment.{lits_of}
use Rattle.tcl_sat.proofs.OpenLiterals.{count_more, count_ended}
use Rattle.tcl_sat.proofs.analysis.open_among.Goals as goal

pub loop-lit-preserved : goal.loop-lit-preserved
loop-lit-preserved c =
    let front = take c.args.floor (lits_of c.args.trail.now.entries) in
    let more = count_more front c.args.lits.now c.loop-lit.lit-index c.lit-item.result (omega arith) c.lit-item.is in
    (omega (arith, c.loop-lit.invariant.0, more, c.count_of-count.ensures.count), omega (arith, c.loop-lit.invariant.1, c.count_of-count.ensures.few))

pub returns : goal.returns
returns c =
    let front = take c.args.floor (lits_of c.args.trail.now.entries) in
    omega (arith, c.loop-lit.invariant.0, count_ended front c.args.lits.now c.loop-lit.lit-index (omega arith))
