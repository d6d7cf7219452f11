-- No more bits than there are.
use Rattle.std.proofs.Common.{arith, ◌-◌}
use Rattle.tcl_enum.proofs.FreeBits.{bits_before, fewer_bits}
use Rattle.tcl_enum.proofs.assigning.bit_count.Goals as goal

pub overflow_add-count : goal.overflow_add-count
overflow_add-count c =
    let variables = c.args.variables.now in
    let free = c.args.free.now in
    omega (arith, bits_before variables free c.loop-k.k 0 (omega (arith, c.loop-k-test.true)) c.loop-k.invariant.within, fewer_bits variables free (c.loop-k.k - 1), c.requires, c.loop-k.invariant.count, c.width_of-count.ensures)
