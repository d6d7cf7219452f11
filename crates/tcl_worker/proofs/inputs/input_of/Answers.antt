-- At the end nothing is left.
use Rattle.std.proofs.Common.{arith}
use Rattle.tcl_worker.proofs.InputLines.{input_done}
use Rattle.tcl_worker.proofs.inputs.input_of.Goals as goal

pub returns : goal.returns
returns c =
    input_done c.args.free.now c.args.lines.now c.loop-k.k c.loop-k.input _
    (omega (arith, c.loop-k-test.false, c.len-k-end.ensures)) c.loop-k.invariant
