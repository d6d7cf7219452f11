use Rattle.tcl_bits.proofs.Steps.{sum_ended, carry_ended, sum_value}
use Rattle.tcl_bits.proofs.programs.add.Goals as goal

pub returns-clause-value : goal.returns-clause-value
returns-clause-value c =
    let xs = c.args.xs.now in
    let ys = c.args.ys.now in
    let done = sum_ended xs ys c.loop-i.bits.items c.loop-i.i c.loop-i.next c.args.carry c.loop-i-test.false c.loop-i.invariant.bits in
    let last = carry_ended xs ys c.loop-i.i c.loop-i.next c.args.carry c.loop-i-test.false c.loop-i.invariant.carry in
    sum_value xs ys c.loop-i.bits.items c.loop-i.next c.args.carry c.requires done last
