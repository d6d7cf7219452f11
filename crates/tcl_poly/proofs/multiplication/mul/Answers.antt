-- The laws of the product, for the terms that were made.
use Rattle.std.proofs.Common.{rules, ◌≡◌}
use Rattle.tcl_ring.specs.Reduction as r
use Rattle.tcl_ring.proofs.Reductions.{is_reduction}
use Rattle.tcl_poly.specs.Polynomial as p
use Rattle.tcl_poly.proofs.Values.{product_over, product_coefficients, product_values}
use Rattle.tcl_poly.proofs.multiplication.mul.Goals as goal

pub returns-clause-over : goal.returns-clause-over
returns-clause-over g c =
    let m = g.R.Ring.modulus_of c.args.ring.now in let value = g.R.Ring.amount c.args.ring.now in
    let a = p.terms_of value c.args.a.now in let b = p.terms_of value c.args.b.now in let s = p.terms_of value c.in_ok-terms.terms.items in
    let product : s ≡ p.product_of (r.reduced_by m) a b = search rules in
    product_over (r.reduced_by m) (is_reduction m (g.met.R.Ring.is_modulus c.args.ring.now)) a b s product c.requires.first c.requires.second

pub returns-clause-coefficients : goal.returns-clause-coefficients
returns-clause-coefficients g c =
    let m = g.R.Ring.modulus_of c.args.ring.now in let value = g.R.Ring.amount c.args.ring.now in
    let a = p.terms_of value c.args.a.now in let b = p.terms_of value c.args.b.now in let s = p.terms_of value c.in_ok-terms.terms.items in
    let product : s ≡ p.product_of (r.reduced_by m) a b = search rules in
    product_coefficients (r.reduced_by m) (is_reduction m (g.met.R.Ring.is_modulus c.args.ring.now)) a b s product c.requires.first c.requires.second

pub returns-clause-values : goal.returns-clause-values
returns-clause-values g c =
    let m = g.R.Ring.modulus_of c.args.ring.now in let value = g.R.Ring.amount c.args.ring.now in
    let a = p.terms_of value c.args.a.now in let b = p.terms_of value c.args.b.now in let s = p.terms_of value c.in_ok-terms.terms.items in
    let product : s ≡ p.product_of (r.reduced_by m) a b = search rules in
    product_values (r.reduced_by m) (is_reduction m (g.met.R.Ring.is_modulus c.args.ring.now)) a b s product
