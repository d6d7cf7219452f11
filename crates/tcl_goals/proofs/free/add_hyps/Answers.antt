-- One item further.
use Rattle.std.proofs.Common.{arith}
use Rattle.tcl_goals.specs.Free as free
use Rattle.tcl_goals.proofs.Marking.{flat_marked}
use Rattle.tcl_goals.proofs.free.add_hyps.Goals as goal

pub loop-j-preserved : goal.loop-j-preserved
loop-j-preserved c =
    flat_marked _ (free.hyp_variables c.args.lines.now c.args.lemmas.now) c.args.hyps.now c.loop-j.j c.loop-j.marks.marks c.add_hyp.new.marks.marks _ (omega arith) c.add_hyp.ensures c.loop-j.invariant
