-- The combination is over the ring, and the difference is that of the two polynomials.
use Rattle.std.proofs.Common.{rules, ◌≡◌, ◌^◌, false, map, Option, MatchOption, min, sym, ◌∙◌, ap, subst}
use Rattle.tcl_ring.specs.Reduction as r
use Rattle.tcl_ring.proofs.Reductions.{is_reduction}
use Rattle.tcl_poly.specs.Monomial.{Monomial}
use Rattle.tcl_poly.specs.Polynomial as p
use Rattle.tcl_poly.proofs.Norms.{wide_saturated}
use Rattle.tcl_poly.specs.Combination.{combination_of, weight_of}
use Rattle.tcl_cofactor.specs.Comparison.{IsGreatestDifference}
use Rattle.tcl_poly.proofs.Combinations.{combination_is}
use Rattle.tcl_cofactor.proofs.answer.check_cofactors.Goals as goal

pub first_difference-requires-clause-second : goal.first_difference-requires-clause-second
first_difference-requires-clause-second g c =
    let m = g.R.Ring.modulus_of c.args.ring.now in let value = g.R.Ring.amount c.args.ring.now in
    let ring = is_reduction m (g.met.R.Ring.is_modulus c.args.ring.now) in
    let sum : p.terms_of value c.in-Ok.sum ≡ combination_of (r.reduced_by m) value c.args.equations.now (map (λ x. (x.equation, x.poly)) c.args.cofactors.now) = search rules in
    let P : p.Polynomial → Type 0 = λ z. p.IsPolynomial (r.reduced_by m) z in
    subst P (sym sum) (combination_is m ring value c.args.equations.now (map (λ x. (x.equation, x.poly)) c.args.cofactors.now) c.requires.equations c.requires.cofactors)

pub returns-in-Some : goal.returns-in-Some
returns-in-Some g c =
    let m = g.R.Ring.modulus_of c.args.ring.now in let value = g.R.Ring.amount c.args.ring.now in
    let sum : p.terms_of value c.in-Ok.sum ≡ combination_of (r.reduced_by m) value c.args.equations.now (map (λ x. (x.equation, x.poly)) c.args.cofactors.now) = search rules in
    let weigh = weight_of value c.args.equations.now in
    let pairs = map (λ x. (x.equation, x.poly)) c.args.cofactors.now in
    let weight : c.weight.result ≡ min (weigh pairs) (2 ^ 127) = c.weight.ensures ∙ ap (λ z. min (weigh (map (λ x. (x.equation, x.poly)) z)) (2 ^ 127)) c.as_slice.ensures in
    let narrow : r.is_wide m (weigh pairs) ≡ false = sym (wide_saturated m (weigh pairs)) ∙ ap (r.is_wide m) (sym weight) ∙ sym c.if-is_wide.ensures in
    let P : p.Polynomial → Type 0 = λ z. IsGreatestDifference (p.terms_of value c.args.f.now) z c.in-Some.mono in
    let f = p.terms_of value c.args.f.now in
    let made = p.terms_of value c.in-Ok.sum in
    let M : Option Monomial → Type 0 = λ o. MatchOption o (f ≡ made) (λ n. IsGreatestDifference f made n) in
    record { comparison = (narrow, subst P sum (subst M c.in-Some.is c.in-Ok-first_difference.ensures)) }
