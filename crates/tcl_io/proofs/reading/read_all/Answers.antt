use Rattle.std.proofs.Common.{arith}
use Rattle.tcl_io.proofs.Contents.{left_after_both}
use Rattle.tcl_io.proofs.reading.read_all.Goals as goal

pub returns-then-limit-len-clause-rest : goal.returns-then-limit-len-clause-rest
returns-then-limit-len-clause-rest g c =
    left_after_both _ _ _ c.loop-n.all.items c.read.new.into c.in-Bytes.n _ c.loop-n.invariant.0 c.in-Bytes.ensures.bytes (omega (arith, c.in-Bytes.ensures.within)) (omega (arith, c.in-Bytes.ensures.given))
