-- The degree grows by the exponent.
use Rattle.std.proofs.Common.{◌≡◌, [], ◌∷◌, ◌++◌, sym, ◌∙◌, ap, subst, arith}
use Rattle.tcl_poly.specs.Monomial as m
use Rattle.tcl_poly.specs.Unknown.{key_of, factors_of}
use Rattle.tcl_poly.proofs.FactorLists.{factors_append, degree_append}
use Rattle.tcl_poly.proofs.mono.Mono.push.Goals as goal

pub invariant_of-self-2 : goal.invariant_of-self-2
invariant_of-self-2 c =
    let before = c.args.self.now in
    let e = c.args.exponent in
    let items : factors_of c.push.new.self.items ≡ before ++ (key_of c.args.unknown, e) ∷ [] = ap factors_of c.in_ok-push.ensures.ok ∙ factors_append c.self.inside.factors.items _ ∙ ap (λ x. x ++ (key_of c.args.unknown, e) ∷ []) c.self.view_is in
    let degrees = ap m.degree items ∙ degree_append before ((key_of c.args.unknown, e) ∷ []) in
    let P : m.Monomial → Type 0 = λ x. m.IsMonomial x in
    let field : c.self.inside.degree ≡ m.degree before = c.self.invariant.0 ∙ ap m.degree c.self.view_is in
    (omega (arith, field, degrees), subst P (sym items) c.requires.later)
