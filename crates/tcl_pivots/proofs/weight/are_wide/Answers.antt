-- The norm and the weight, each up to the limit, tell what their sum tells.
use Rattle.std.proofs.Common.{◌≡◌, ◌+◌, ◌^◌, min, false, ◌||◌, sym, ◌∙◌, ap}
use Rattle.tcl_num.proofs.SaturatingCounts.{sum_saturates}
use Rattle.tcl_ring.specs.Reduction as r
use Rattle.tcl_poly.specs.Combination.{weight_of}
use Rattle.tcl_poly.proofs.Norms.{wide_saturated}
use Rattle.tcl_reduce.specs.Answer.{numbered}
use Rattle.tcl_reduce.specs.CofactorSum as s
use Rattle.tcl_pivots.specs.CofactorLists.{equations_of}
use Rattle.tcl_pivots.proofs.CofactorTurns.{valued}
use Rattle.tcl_pivots.proofs.CofactorWeights.{weight_values}
use Rattle.tcl_pivots.proofs.weight.are_wide.Goals as goal

pub returns : goal.returns
returns g c n e =
    let m = g.R.Ring.modulus_of c.args.ring.now in let value = g.R.Ring.amount c.args.ring.now in
    let equations = c.args.equations.now in let cs = numbered c.args.cofactors.now in
    let weight = weight_of value equations cs in
    let whole : c.saturating_sum.result ≡ min (n + weight) (2 ^ 127) =
    c.saturating_sum.ensures ∙ (λ i. min (e i + c.weight-weight.ensures i) (2 ^ 127)) ∙ sum_saturates n weight (2 ^ 127) in
    let deep : s.is_deep (equations_of value equations) (valued value c.args.cofactors.now) ≡ false = sym c.is_deep.ensures ∙ c.if-is_deep.false in
    c.is_wide.ensures
    ∙ ap (r.is_wide m) whole
    ∙ wide_saturated m (n + weight)
    ∙ sym (λ i. deep i || r.is_wide m (n + weight_values value equations cs i))
