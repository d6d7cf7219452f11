-- One cofactor more.
use Rattle.std.proofs.Common.{◌≡◌, ◌+◌, ◌-◌, ◌<◌, true, ◌||◌, length, drop, sym, ◌∙◌, ap, arith}
use Rattle.tcl_poly.proofs.Combinations.{read_equation}
use Rattle.tcl_reduce.specs.CofactorSum.{is_deep}
use Rattle.tcl_pivots.specs.CofactorLists.{equations_of}
use Rattle.tcl_pivots.proofs.CofactorTurns.{valued}
use Rattle.tcl_pivots.proofs.CofactorWeights.{below_at, turn_deep}
use Rattle.tcl_pivots.proofs.weight.is_deep.Goals as goal

pub bounds-equations-cofactor : goal.bounds-equations-cofactor
bounds-equations-cofactor g c =
    below_at (length c.args.equations.now) c.args.cofactors.now (c.loop-k.k - 1) c.index-cofactors-k.result c.index-cofactors-k.is (omega (arith, c.loop-k-test.true, c.loop-k.invariant.0)) c.requires

pub loop-k-preserved-then-is_deep_pair : goal.loop-k-preserved-then-is_deep_pair
loop-k-preserved-then-is_deep_pair g c =
    let value = g.R.Ring.amount c.args.ring.now in
    let equations = c.args.equations.now in let xs = c.args.cofactors.now in
    let j = c.loop-k.k - 1 in
    let x = c.index-cofactors-k.result in let q = c.index-equations-cofactor.result in
    let below : j < length xs = omega (arith, c.loop-k-test.true, c.loop-k.invariant.0) in
    let place : c.loop-k.k ≡ j + 1 = omega (arith, c.loop-k-test.true) in
    let known = below_at (length equations) xs j x c.index-cofactors-k.is below c.requires in
    let equation = read_equation equations x.equation q c.index-equations-cofactor.is known in
    let rest = c.loop-k.invariant.1 ∙ ap (λ z. is_deep (equations_of value equations) (valued value (drop z xs))) place in
    let deep : c.is_deep_pair.result ≡ true = c.if-is_deep_pair.true in (
      omega (arith, c.loop-k.invariant.0),
      deep ∙ ap (λ b. b || c.loop-k.deep) (sym deep) ∙ turn_deep value equations xs j x q c.is_deep_pair.result c.loop-k.deep c.index-cofactors-k.is below equation c.is_deep_pair.ensures rest,
    )
