-- One cofactor more.
use Rattle.std.proofs.Common.{◌≡◌, ℕ, suc, ◌+◌, ◌*◌, ◌-◌, ◌<◌, ◌≤◌, ◌^◌, length, drop, map, min, sym, ◌∙◌, ap, arith}
use Rattle.tcl_poly.specs.Polynomial as p
use Rattle.tcl_poly.specs.Combination.{weight_of}
use Rattle.tcl_poly.proofs.Combinations.{cofactor_at, read_equation, turn_weight}
use Rattle.tcl_cofactor.proofs.combination.weight.Goals as goal

pub bounds-equations-cofactor : goal.bounds-equations-cofactor
bounds-equations-cofactor g c =
    let m = g.R.Ring.modulus_of c.args.ring.now in let value = g.R.Ring.amount c.args.ring.now in
    (cofactor_at m value c.args.equations.now c.args.cofactors.now (λ x. (x.equation, x.poly)) (c.loop-k.k - 1) c.index-cofactors-k.result c.index-cofactors-k.is (omega (arith, c.loop-k-test.true, c.loop-k.invariant.0)) c.requires).0

pub loop-k-preserved : goal.loop-k-preserved
loop-k-preserved g c =
    let m = g.R.Ring.modulus_of c.args.ring.now in let value = g.R.Ring.amount c.args.ring.now in
    let equations = c.args.equations.now in let xs = c.args.cofactors.now in
    let j = c.loop-k.k - 1 in
    let x = c.index-cofactors-k.result in let q = c.index-equations-cofactor.result in
    let below : j < length xs = omega (arith, c.loop-k-test.true, c.loop-k.invariant.0) in
    let place : c.loop-k.k ≡ suc j = omega (arith, c.loop-k-test.true) in
    let known = cofactor_at m value equations xs (λ x. (x.equation, x.poly)) j x c.index-cofactors-k.is below c.requires in
    let equation = read_equation equations x.equation q c.index-equations-cofactor.is known.0 in (
      omega (arith, c.loop-k.invariant.0),
      c.saturating_sum-weight.ensures
          ∙ turn_weight value equations xs (λ x. (x.equation, x.poly)) j x q c.norm_of_terms.result c.norm_of_terms-in-loop-k.result c.saturating_product-product.result c.loop-k.weight (2 ^ 127) c.index-cofactors-k.is below equation
          (c.norm_of_terms.ensures ∙ ap (λ z. min (p.norm_of (p.terms_of value z)) (2 ^ 127)) c.terms.ensures)
          (c.norm_of_terms-in-loop-k.ensures ∙ ap (λ z. min (p.norm_of (p.terms_of value z)) (2 ^ 127)) c.terms-in-loop-k.ensures)
          c.saturating_product-product.ensures
          (c.loop-k.invariant.1 ∙ ap (λ z. min (weight_of value equations (map (λ x. (x.equation, x.poly)) (drop z xs))) (2 ^ 127)) place),
    )
