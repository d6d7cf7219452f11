use Rattle.std.proofs.Common.{◌≤◌, ◌-◌, length, take, drop, length-take, arith}
use Rattle.tcl_io.proofs.Contents.{and_then_both}
use Rattle.tcl_io.proofs.writing.write_all.Goals as goal

pub loop-written-preserved : goal.loop-written-preserved
loop-written-preserved g c =
    let wrote = c.in-Bytes.ensures in
    let piece : length (take (length c.args.bytes.now - c.loop-written.written) (drop c.loop-written.written c.args.bytes.now)) ≤ length c.args.bytes.now - c.loop-written.written = simp length-take (omega arith) in
    (and_then_both _ _ _ c.args.bytes.now c.loop-written.written c.in-Bytes.n _ c.loop-written.invariant.0 wrote.bytes (omega (arith, wrote.within, piece)), omega arith, omega arith, omega arith)
