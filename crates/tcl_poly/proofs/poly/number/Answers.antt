-- A constant is in canonical form.
use Rattle.std.proofs.Common.{rules, ◌≡◌, sym, subst}
use Rattle.tcl_ring.specs.Reduction.{reduced_by}
use Rattle.tcl_ring.proofs.Reductions.{is_reduction}
use Rattle.tcl_poly.specs.Polynomial as p
use Rattle.tcl_poly.proofs.Canonical.{number_is}
use Rattle.tcl_poly.proofs.Values.{number_values}
use Rattle.tcl_poly.proofs.poly.number.Goals as goal

pub returns-in_ok-push_term-in-Ok-clause-over : goal.returns-in_ok-push_term-in-Ok-clause-over
returns-in_ok-push_term-in-Ok-clause-over g c =
    let modulus = g.R.Ring.modulus_of c.args.ring.now in
    let made : p.terms_of (g.R.Ring.amount c.args.ring.now) c.push_term.new.terms.items ≡ p.number_of (reduced_by modulus) c.args.n = search rules in
    let P : p.Polynomial → Type 0 = λ x. p.IsPolynomial (reduced_by modulus) x in
    subst P (sym made) (number_is (reduced_by modulus) (is_reduction modulus (g.met.R.Ring.is_modulus c.args.ring.now)) c.args.n)

pub returns-in_ok-push_term-in-Ok-clause-values : goal.returns-in_ok-push_term-in-Ok-clause-values
returns-in_ok-push_term-in-Ok-clause-values g c =
    let modulus = g.R.Ring.modulus_of c.args.ring.now in
    let made : p.terms_of (g.R.Ring.amount c.args.ring.now) c.push_term.new.terms.items ≡ p.number_of (reduced_by modulus) c.args.n = search rules in
    number_values (reduced_by modulus) (is_reduction modulus (g.met.R.Ring.is_modulus c.args.ring.now)) c.args.n (p.terms_of (g.R.Ring.amount c.args.ring.now) c.push_term.new.terms.items) made
