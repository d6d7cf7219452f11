-- The place comes after the others, and the equation is that of the definition.
use Rattle.std.proofs.Common.{sym, subst, arith, List, [], ◌∷◌, ◌++◌}
use Rattle.tcl_poly.specs.Combination.{Terms}
use Rattle.tcl_reduce.specs.Definitions.{Defined}
use Rattle.tests_member.specs.Begun.{AreDefined}
use Rattle.tests_member.proofs.Beginnings.{definition_pushed}
use Rattle.tests_member.proofs.making.define.Goals as goal

pub returns : goal.returns
returns g c =
    let m = g.R.Ring.modulus_of c.args.ring.now in let value = g.R.Ring.amount c.args.ring.now in
    let x : Defined _ = (c.args.place, c.args.variable, c.args.poly) in
    let P : List (Defined _) → Type 0 = λ z. AreDefined m value z c.push.new.self in
    let Q : List (Terms _) → Type 0 = λ z. AreDefined m value (c.args.defs.now ++ x ∷ []) z in
    subst P (sym c.in_ok-push-2.ensures.pushed)
    (subst Q (sym c.in_ok-push.ensures.pushed)
    (definition_pushed m value c.args.defs.now x c.args.list.now c.in_ok-equation.equation c.requires.defined c.requires.over c.in_ok-equation.ensures.over
    (omega (arith, c.degree.ensures, c.if-degree-gt1024.false)) (c.in_ok-equation.ensures.equation c.args.place)))
