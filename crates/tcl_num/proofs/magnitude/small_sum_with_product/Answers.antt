-- A product that is too great for u128 leaves a sum that is too great.
use Rattle.std.proofs.Common.{rules, ◌+◌, ◌*◌, ◌≤◌, ◌^◌, unsigned_abs}
use Rattle.tcl_num.proofs.FarSums.{too_far}
use Rattle.tcl_num.proofs.magnitude.small_sum_with_product.Goals as goal

pub returns-in-None : goal.returns-in-None
returns-in-None c =
    let a = c.args.a.now in let x = c.args.b.now in let y = c.args.c.now in
    let least : unsigned_abs a ≤ 2 ^ 127 = search rules in
    let great : 2 ^ 127 + 2 ^ 127 ≤ unsigned_abs x * unsigned_abs y = search rules in
    too_far a x y c.is_below-below.result (2 ^ 127) c.is_below-below.ensures least great
