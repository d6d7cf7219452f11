-- One product more.
use Rattle.std.proofs.Common.{rules, ◌≡◌, ℕ, suc, ◌+◌, ◌*◌, ◌-◌, ◌<◌, ◌≤◌, length, drop, map, sym, ◌∙◌, ap, arith}
use Rattle.tcl_ring.specs.Reduction as r
use Rattle.tcl_ring.proofs.Reductions.{is_reduction}
use Rattle.tcl_poly.specs.Polynomial as p
use Rattle.tcl_poly.specs.Combination.{combination_of}
use Rattle.tcl_poly.proofs.Combinations.{cofactor_at, read_equation, turn_second, turn_third, turn_product_fits, turn_sum_fits, turn_combination}
use Rattle.tcl_cofactor.proofs.combination.combine.Goals as goal

pub bounds-equations-cofactor : goal.bounds-equations-cofactor
bounds-equations-cofactor g c =
    let m = g.R.Ring.modulus_of c.args.ring.now in let value = g.R.Ring.amount c.args.ring.now in
    let equations = c.args.equations.now in let xs = c.args.cofactors.now in
    let j = c.loop-k.k - 1 in
    let x = c.index-cofactors-k.result in
    let below : j < length xs = omega (arith, c.loop-k-test.true, c.loop-k.invariant.0) in
    let known = cofactor_at m value equations xs (λ x. (x.equation, x.poly)) j x c.index-cofactors-k.is below c.requires.cofactors in
    known.0

pub add_product-requires-clause-first : goal.add_product-requires-clause-first
add_product-requires-clause-first g c =
    let m = g.R.Ring.modulus_of c.args.ring.now in let value = g.R.Ring.amount c.args.ring.now in
    let equations = c.args.equations.now in let xs = c.args.cofactors.now in
    let j = c.loop-k.k - 1 in
    let x = c.index-cofactors-k.result in
    let below : j < length xs = omega (arith, c.loop-k-test.true, c.loop-k.invariant.0) in
    let known = cofactor_at m value equations xs (λ x. (x.equation, x.poly)) j x c.index-cofactors-k.is below c.requires.cofactors in
    known.1

pub add_product-requires-clause-second : goal.add_product-requires-clause-second
add_product-requires-clause-second g c =
    let m = g.R.Ring.modulus_of c.args.ring.now in let value = g.R.Ring.amount c.args.ring.now in
    let equations = c.args.equations.now in let xs = c.args.cofactors.now in
    let j = c.loop-k.k - 1 in
    let x = c.index-cofactors-k.result in
    let below : j < length xs = omega (arith, c.loop-k-test.true, c.loop-k.invariant.0) in
    let known = cofactor_at m value equations xs (λ x. (x.equation, x.poly)) j x c.index-cofactors-k.is below c.requires.cofactors in
    let q = c.index-equations-cofactor.result in
    let equation = read_equation equations x.equation q c.index-equations-cofactor.is known.0 in
    turn_second m value equations x.equation q equation c.requires.equations

pub add_product-requires-clause-third : goal.add_product-requires-clause-third
add_product-requires-clause-third g c =
    let m = g.R.Ring.modulus_of c.args.ring.now in let value = g.R.Ring.amount c.args.ring.now in
    let ring = is_reduction m (g.met.R.Ring.is_modulus c.args.ring.now) in
    turn_third m ring value c.args.equations.now c.args.cofactors.now (λ x. (x.equation, x.poly)) c.loop-k.k (p.terms_of value c.loop-k.sum) c.loop-k.invariant.1 c.requires.equations c.requires.cofactors

pub add_product-requires-clause-degrees : goal.add_product-requires-clause-degrees
add_product-requires-clause-degrees g c =
    let m = g.R.Ring.modulus_of c.args.ring.now in let value = g.R.Ring.amount c.args.ring.now in
    let equations = c.args.equations.now in let xs = c.args.cofactors.now in
    let j = c.loop-k.k - 1 in
    let x = c.index-cofactors-k.result in
    let below : j < length xs = omega (arith, c.loop-k-test.true, c.loop-k.invariant.0) in
    let known = cofactor_at m value equations xs (λ x. (x.equation, x.poly)) j x c.index-cofactors-k.is below c.requires.cofactors in
    let q = c.index-equations-cofactor.result in
    let equation = read_equation equations x.equation q c.index-equations-cofactor.is known.0 in
    omega (arith, known.2, ap p.degree_of equation)

pub add_product-requires-clause-product_fits : goal.add_product-requires-clause-product_fits
add_product-requires-clause-product_fits g c =
    let m = g.R.Ring.modulus_of c.args.ring.now in let value = g.R.Ring.amount c.args.ring.now in
    let equations = c.args.equations.now in let xs = c.args.cofactors.now in
    let j = c.loop-k.k - 1 in
    let x = c.index-cofactors-k.result in
    let below : j < length xs = omega (arith, c.loop-k-test.true, c.loop-k.invariant.0) in
    let known = cofactor_at m value equations xs (λ x. (x.equation, x.poly)) j x c.index-cofactors-k.is below c.requires.cofactors in
    let q = c.index-equations-cofactor.result in
    let equation = read_equation equations x.equation q c.index-equations-cofactor.is known.0 in
    turn_product_fits m value equations xs (λ x. (x.equation, x.poly)) j x q c.index-cofactors-k.is below equation c.requires.fits

pub add_product-requires-clause-sum_fits : goal.add_product-requires-clause-sum_fits
add_product-requires-clause-sum_fits g c =
    let m = g.R.Ring.modulus_of c.args.ring.now in let value = g.R.Ring.amount c.args.ring.now in
    let equations = c.args.equations.now in let xs = c.args.cofactors.now in
    let j = c.loop-k.k - 1 in
    let x = c.index-cofactors-k.result in
    let below : j < length xs = omega (arith, c.loop-k-test.true, c.loop-k.invariant.0) in
    let known = cofactor_at m value equations xs (λ x. (x.equation, x.poly)) j x c.index-cofactors-k.is below c.requires.cofactors in
    let q = c.index-equations-cofactor.result in
    let equation = read_equation equations x.equation q c.index-equations-cofactor.is known.0 in
    let place : c.loop-k.k ≡ suc j = omega (arith, c.loop-k-test.true) in
    let rest = c.loop-k.invariant.1 ∙ ap (λ z. combination_of (r.reduced_by m) value equations (map (λ x. (x.equation, x.poly)) (drop z xs))) place in
    turn_sum_fits m value equations xs (λ x. (x.equation, x.poly)) j x q (p.terms_of value c.loop-k.sum) c.index-cofactors-k.is below equation rest c.requires.fits

pub loop-k-preserved : goal.loop-k-preserved
loop-k-preserved g c =
    let m = g.R.Ring.modulus_of c.args.ring.now in let value = g.R.Ring.amount c.args.ring.now in
    let equations = c.args.equations.now in let xs = c.args.cofactors.now in
    let j = c.loop-k.k - 1 in
    let x = c.index-cofactors-k.result in
    let below : j < length xs = omega (arith, c.loop-k-test.true, c.loop-k.invariant.0) in
    let known = cofactor_at m value equations xs (λ x. (x.equation, x.poly)) j x c.index-cofactors-k.is below c.requires.cofactors in
    let q = c.index-equations-cofactor.result in
    let equation = read_equation equations x.equation q c.index-equations-cofactor.is known.0 in
    let place : c.loop-k.k ≡ suc j = omega (arith, c.loop-k-test.true) in
    let rest = c.loop-k.invariant.1 ∙ ap (λ z. combination_of (r.reduced_by m) value equations (map (λ x. (x.equation, x.poly)) (drop z xs))) place in
    let after = c.in_ok-sum.sum in (
      omega (arith, c.loop-k.invariant.0),
      turn_combination (r.reduced_by m) value equations xs (λ x. (x.equation, x.poly)) j x q (p.terms_of value c.loop-k.sum) (p.terms_of value after) c.index-cofactors-k.is below equation rest c.in_ok-sum.ensures,
    )
