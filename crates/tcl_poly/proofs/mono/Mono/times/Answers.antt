-- The product is a monomial, and its degree is the sum of the degrees.
use Rattle.std.proofs.Common.{rules, ◌≡◌, sym, ap, subst, arith}
use Rattle.tcl_poly.specs.Monomial as m
use Rattle.tcl_poly.specs.Unknown.{factors_of}
use Rattle.tcl_poly.proofs.MonomialLaws.{times_degree, times_monomial}
use Rattle.tcl_poly.proofs.mono.Mono.times.Goals as goal

pub invariant_of-result : goal.invariant_of-result
invariant_of-result c =
    let a = factors_of c.self.inside.factors.items in
    let b = factors_of c.other.inside.factors.items in
    let product : factors_of c.in_ok-factors.factors.items ≡ m.times a b = search rules in
    let P : m.Monomial → Type 0 = λ x. m.IsMonomial x in (
      omega (arith, c.self.invariant.0, c.other.invariant.0, ap m.degree product, times_degree a b),
      subst P (sym product) (times_monomial 0 a b c.self.invariant.1 c.other.invariant.1),
    )
