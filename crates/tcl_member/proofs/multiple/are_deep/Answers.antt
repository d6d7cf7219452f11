-- One cofactor more.
use Rattle.std.proofs.Common.{◌≡◌, ◌+◌, ◌-◌, ◌<◌, true, ◌||◌, length, drop, sym, ◌∙◌, ap, arith}
use Rattle.tcl_poly.proofs.Combinations.{read_equation}
use Rattle.tcl_pivots.specs.CofactorLists.{equations_of}
use Rattle.tcl_pivots.proofs.CofactorTurns.{valued}
use Rattle.tcl_pivots.proofs.CofactorWeights.{below_at}
use Rattle.tcl_member.specs.Deep.{are_deep_products}
use Rattle.tcl_member.proofs.CofactorTurns.{deep_turn}
use Rattle.tcl_member.proofs.multiple.are_deep.Goals as goal

pub bounds-equations-cofactor : goal.bounds-equations-cofactor
bounds-equations-cofactor g c =
    below_at (length c.args.equations.now) c.args.cofactors.now (c.loop-k.k - 1) c.index-cofactors-k.result c.index-cofactors-k.is (omega (arith, c.loop-k-test.true, c.loop-k.invariant.0)) c.requires

pub loop-k-preserved-then-is_deep : goal.loop-k-preserved-then-is_deep
loop-k-preserved-then-is_deep g c =
    let equations = c.args.equations.now in let xs = c.args.cofactors.now in
    let j = c.loop-k.k - 1 in
    let x = c.index-cofactors-k.result in let q = c.index-equations-cofactor.result in
    let below : j < length xs = omega (arith, c.loop-k-test.true, c.loop-k.invariant.0) in
    let place : c.loop-k.k ≡ j + 1 = omega (arith, c.loop-k-test.true) in
    let known = below_at (length equations) xs j x c.index-cofactors-k.is below c.requires in
    let equation = read_equation equations x.equation q c.index-equations-cofactor.is known in
    let deep : c.is_deep.result ≡ true = c.if-is_deep.true in (
      omega (arith, c.loop-k.invariant.0),
      λ value.
          deep ∙ ap (λ b. b || c.loop-k.deep) (sym deep)
          ∙ deep_turn value equations c.args.degree xs j x q c.is_deep.result c.loop-k.deep c.index-cofactors-k.is below equation (c.is_deep.ensures value) (c.loop-k.invariant.1 value ∙ ap (λ z. are_deep_products (equations_of value equations) c.args.degree (valued value (drop z xs))) place),
    )
