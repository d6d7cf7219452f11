-- The sum is over the ring.
use Rattle.std.proofs.Common.{rules, ◌≡◌, [], sym, subst}
use Rattle.tcl_ring.specs.Reduction as r
use Rattle.tcl_ring.proofs.Reductions.{is_reduction}
use Rattle.tcl_poly.specs.Polynomial as p
use Rattle.tcl_poly.proofs.Canonical.{sum_is, scaled_is}
use Rattle.tcl_poly.proofs.multiple.add_multiple.Goals as goal

pub returns-clause-over : goal.returns-clause-over
returns-clause-over g c =
    let m = g.R.Ring.modulus_of c.args.ring.now in let value = g.R.Ring.amount c.args.ring.now in
    let ring = is_reduction m (g.met.R.Ring.is_modulus c.args.ring.now) in
    let a = p.terms_of value c.args.a.now in let b = p.terms_of value c.args.b.now in let k = value c.args.c.now in
    let made : p.terms_of value c.in_ok-terms.terms.items ≡ p.sum_of (r.reduced_by m) a (p.scaled (r.reduced_by m) ([], k) b) = search rules in
    let P : p.Polynomial → Type 0 = λ x. p.IsPolynomial (r.reduced_by m) x in
    subst P (sym made) (sum_is (r.reduced_by m) ring a (p.scaled (r.reduced_by m) ([], k) b) c.requires.first (scaled_is (r.reduced_by m) ring ([], k) b tt c.requires.second))
