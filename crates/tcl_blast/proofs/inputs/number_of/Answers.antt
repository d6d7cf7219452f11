-- The bits so far make a small number.
use Rattle.std.proofs.Common.{arith, ◌+◌, ◌-◌}
use Rattle.tcl_cnf.specs.Literal.{value_at}
use Rattle.tcl_bits.proofs.Values.{bit_most}
use Rattle.tcl_blast.proofs.ModelBits.{small_number}
use Rattle.tcl_blast.proofs.inputs.number_of.Goals as goal

pub overflow_mul-number : goal.overflow_mul-number
overflow_mul-number c =
    let l = c.loop-left in
    omega (arith, l.invariant.number, small_number c.args.bits.now (c.args.first + l.left) (c.args.width - l.left) (omega (arith, c.requires.narrow, c.loop-left-test.true)))

pub overflow_add-number : goal.overflow_add-number
overflow_add-number c =
    let l = c.loop-left in
    omega (arith, l.invariant.number, small_number c.args.bits.now (c.args.first + l.left) (c.args.width - l.left) (omega (arith, c.requires.narrow, c.loop-left-test.true)), c.bit_at.ensures, bit_most (value_at c.args.bits.now (c.args.first + (l.left - 1))))
