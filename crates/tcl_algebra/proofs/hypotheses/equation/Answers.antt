-- The multiple of the modulus fits, since its value was added to the norm.
use Rattle.std.proofs.Common.{◌≡◌, ◌∙◌, ap, arith, pos, to_z}
use Rattle.std.specs.Int.{w128}
use Rattle.std.proofs.lemmas.Int.{ints}
use Rattle.tcl_lang.specs.Modulus.{modulus_value}
use Rattle.tcl_poly.specs.Polynomial as p
use Rattle.tcl_algebra.proofs.HypothesisNorms.{congruence_fits}
use Rattle.tcl_algebra.proofs.hypotheses.equation.Goals as goal

pub less_multiple-requires-clause-fits : goal.less_multiple-requires-clause-fits
less_multiple-requires-clause-fits g c =
    let m = g.R.Ring.modulus_of c.args.ring.now in
    let value = g.R.Ring.amount c.args.ring.now in
    let n = c.modulus_value-modulus.result in
    let cast : to_z w128 n ≡ pos n = omega (arith, ints, c.modulus_value-modulus.ensures.bound) in
    congruence_fits m c.args.pred.now c.in-Some.parts (p.terms_of value c.in_ok-sides.sides) (to_z w128 n) c.in-Some.is
    (cast ∙ c.modulus_value-modulus.ensures.value ∙ ap modulus_value c.as_slice.ensures) c.in_ok-sides.ensures.polynomial c.requires.counted
