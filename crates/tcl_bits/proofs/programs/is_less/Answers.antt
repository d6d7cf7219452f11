use Rattle.std.proofs.Common.{◌∙◌}
use Rattle.tcl_bits.specs.Circuit.{less_bit}
use Rattle.tcl_bits.proofs.Comparisons.{less_law}
use Rattle.tcl_bits.proofs.Steps.{less_kept, less_ended}
use Rattle.tcl_bits.proofs.programs.is_less.Goals as goal

pub loop-i-preserved : goal.loop-i-preserved
loop-i-preserved c =
    less_kept c.args.signed c.args.xs.now c.args.ys.now c.loop-i.i c.loop-i.carry c.is_sign-flips.result c.xor.result c.xor-in-loop-i.result
    c.major-carry.result (less_bit c.args.signed c.args.xs.now c.args.ys.now) c.requires c.loop-i-test.true
    c.is_sign-flips.ensures c.xor.ensures c.xor-in-loop-i.ensures c.major-carry.ensures c.loop-i.invariant

pub returns-clause-value : goal.returns-clause-value
returns-clause-value c =
    less_ended c.args.signed c.args.xs.now c.args.ys.now c.loop-i.i c.loop-i.carry c.loop-i-test.false c.loop-i.invariant
    ∙ less_law c.args.signed c.args.xs.now c.args.ys.now c.requires
