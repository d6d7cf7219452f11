-- One cofactor more.
use Rattle.std.proofs.Common.{◌≡◌, suc, ◌-◌, ◌<◌, ◌^◌, length, drop, min, ◌∙◌, ap, arith}
use Rattle.tcl_poly.specs.Polynomial as p
use Rattle.tcl_poly.specs.Combination.{weight_of}
use Rattle.tcl_poly.proofs.Combinations.{read_equation, turn_weight}
use Rattle.tcl_reduce.specs.Answer.{numbered}
use Rattle.tcl_pivots.proofs.CofactorWeights.{below_at}
use Rattle.tcl_pivots.proofs.weight.weight.Goals as goal

pub bounds-equations-cofactor : goal.bounds-equations-cofactor
bounds-equations-cofactor g c =
    below_at (length c.args.equations.now) c.args.cofactors.now (c.loop-k.k - 1) c.index-cofactors-k.result c.index-cofactors-k.is (omega (arith, c.loop-k-test.true, c.loop-k.invariant.0)) c.requires

pub loop-k-preserved : goal.loop-k-preserved
loop-k-preserved g c =
    let value = g.R.Ring.amount c.args.ring.now in
    let equations = c.args.equations.now in let xs = c.args.cofactors.now in
    let j = c.loop-k.k - 1 in
    let x = c.index-cofactors-k.result in let q = c.index-equations-cofactor.result in
    let below : j < length xs = omega (arith, c.loop-k-test.true, c.loop-k.invariant.0) in
    let place : c.loop-k.k ≡ suc j = omega (arith, c.loop-k-test.true) in
    let known = below_at (length equations) xs j x c.index-cofactors-k.is below c.requires in
    let equation = read_equation equations x.equation q c.index-equations-cofactor.is known in (
      omega (arith, c.loop-k.invariant.0),
      c.saturating_sum-weight.ensures
          ∙ turn_weight value equations xs (λ x. (x.equation, x.poly)) j x q c.norm_of_terms.result c.norm_of_terms-in-loop-k.result c.saturating_product-product.result c.loop-k.weight (2 ^ 127) c.index-cofactors-k.is below equation
          (c.norm_of_terms.ensures ∙ ap (λ z. min (p.norm_of (p.terms_of value z)) (2 ^ 127)) c.terms.ensures)
          (c.norm_of_terms-in-loop-k.ensures ∙ ap (λ z. min (p.norm_of (p.terms_of value z)) (2 ^ 127)) c.terms-in-loop-k.ensures)
          c.saturating_product-product.ensures
          (c.loop-k.invariant.1 ∙ ap (λ z. min (weight_of value equations (numbered (drop z xs))) (2 ^ 127)) place),
    )
