-- A power of two below 2 ^ 127 is not changed by the shift's range.
use Rattle.std.proofs.Common.{◌^◌, ap, ◌∙◌, arith, to_z}
use Rattle.std.specs.Int.{w128}
use Rattle.std.proofs.lemmas.Nat.{one_shl, pow_below}
use Rattle.std.proofs.lemmas.Int.{to_z_pos}
use Rattle.tcl_num.proofs.range.power_of_two.Goals as goal

pub returns : goal.returns
returns c =
    ap (to_z w128) (one_shl c.args.exponent 128 (omega arith)) ∙ to_z_pos w128 (2 ^ c.args.exponent) (pow_below c.args.exponent 127 (omega arith))
