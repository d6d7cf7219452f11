-- One power more.
use Rattle.std.proofs.Common.{rules, length}
use Rattle.tcl_poly.proofs.Combinations.{read_equation}
use Rattle.tcl_reduce.specs.Parts.{by_power}
use Rattle.tcl_reduce.proofs.SizeTurns.{terms_turn, power_turn}
use Rattle.tcl_reduce.proofs.size.count.Goals as goal

pub loop-k-preserved : goal.loop-k-preserved
loop-k-preserved g c =
    let fs = c.args.parts.now in let d = c.args.d.now in let k = c.loop-k.k in
    let part = c.index-parts-k.result in
    let read = read_equation fs k part c.index-parts-k.is (search rules) in (
      terms_turn d part (by_power fs) k c.loop-k.power c.loop-k.count c.saturating_product-row.result c.saturating_sum-count.result 4294967295 read c.loop-k.invariant.1 c.loop-k.invariant.0 (search rules) c.saturating_sum-count.ensures,
      power_turn (length d) k c.loop-k.power c.saturating_product-power.result 4294967295 c.loop-k.invariant.1 (search rules),
    )
