-- The mask is one less than a power of two.
use Rattle.std.proofs.Common.{◌∙◌, ap, bit_and, to_z, of_z}
use Rattle.std.specs.Int.{w128}
use Rattle.tcl_num.proofs.LowestBits.{lowest_bits}
use Rattle.tcl_num.proofs.range.lowest_bits.Goals as goal

pub returns : goal.returns
returns c =
    ap (λ m. to_z w128 (bit_and (of_z w128 c.args.n) m)) c.low_mask.ensures
    ∙ lowest_bits c.args.width c.args.n c.requires.narrow c.ranges.n
