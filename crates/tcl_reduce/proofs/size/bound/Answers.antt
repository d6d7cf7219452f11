-- One power more.
use Rattle.std.proofs.Common.{rules, ◌≡◌, ◌+◌, ◌^◌, ap, max, min, arith}
use Rattle.tcl_poly.specs.Polynomial as p
use Rattle.tcl_poly.proofs.Combinations.{read_equation}
use Rattle.tcl_reduce.specs.Parts.{by_power}
use Rattle.tcl_reduce.specs.Fits.{values_by}
use Rattle.tcl_reduce.proofs.SizeTurns.{bound_turn, last_saturates, growth_saturates, growth_turn}
use Rattle.tcl_reduce.proofs.size.bound.Goals as goal

pub loop-k-preserved : goal.loop-k-preserved
loop-k-preserved g c =
    let value = g.R.Ring.amount c.args.ring.now in
    let fs = c.args.parts.now in let d = p.terms_of value c.args.d.now in let k = c.loop-k.k in
    let part = c.index-parts-k.result in
    let read = read_equation fs (k + 1) part c.index-parts-k.is (search rules) in
    let norm : c.norm_of_terms-norm.result ≡ min (p.norm_of d) (2 ^ 127) = search rules in
    let growth = growth_saturates (p.norm_of d) c.norm_of_terms-norm.result c.max-growth.result (2 ^ 127) (omega arith) norm (search rules) in
    let last = last_saturates (p.norm_of d) c.norm_of_terms-norm.result c.saturating_sum-last.result (2 ^ 127) norm (search rules) in (
      bound_turn d (p.terms_of value part) (values_by value (by_power fs)) k c.norm_of_terms.result c.loop-k.power c.saturating_sum-last.result c.loop-k.bound c.row_bound-row.result c.saturating_sum-bound.result (2 ^ 127)
          (ap (p.terms_of value) read) (search rules) c.loop-k.invariant.1 last c.loop-k.invariant.0 c.row_bound-row.ensures c.saturating_sum-bound.ensures,
      growth_turn (max 1 (p.norm_of d)) k c.max-growth.result c.loop-k.power c.saturating_product-power.result (2 ^ 127) growth c.loop-k.invariant.1 (search rules),
    )
