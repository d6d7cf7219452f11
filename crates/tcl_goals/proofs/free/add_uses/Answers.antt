-- One item further.
use Rattle.std.proofs.Common.{arith}
use Rattle.std.specs.List.{slice_get}
use Rattle.tcl_goals.specs.Slices as slices
use Rattle.tcl_goals.proofs.Marking.{flat_marked}
use Rattle.tcl_goals.proofs.free.add_uses.Goals as goal

pub loop-j-preserved : goal.loop-j-preserved
loop-j-preserved c =
    flat_marked _ (λ k. slices.named_in (slice_get c.args.lines.now k)) c.args.uses.now c.loop-j.j c.loop-j.marks.marks c.add_use.new.marks.marks _ (omega arith) c.add_use.ensures c.loop-j.invariant
