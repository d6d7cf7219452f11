-- More are named already than the limit.
use Rattle.std.proofs.Common.{arith, drop}
use Rattle.tcl_cubes.proofs.Counting.{too_many}
use Rattle.tcl_cubes.proofs.bits.names_at_most.Goals as goal

pub returns-then-len-limit : goal.returns-then-len-limit
returns-then-len-limit c =
    too_many c.loop-k.named.items (drop c.loop-k.k c.args.cubes.now) c.args.cubes.now c.args.limit c.loop-k.invariant
    (omega (arith, c.if-len-limit.true, c.len.ensures))
