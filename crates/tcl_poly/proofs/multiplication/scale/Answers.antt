-- The laws of the product, for the terms that were made.
use Rattle.std.proofs.Common.{rules, ◌≡◌, []}
use Rattle.tcl_ring.specs.Reduction as r
use Rattle.tcl_ring.proofs.Reductions.{is_reduction}
use Rattle.tcl_poly.specs.Polynomial as p
use Rattle.tcl_poly.proofs.Values.{scaled_over, scaled_coefficients, scaled_values}
use Rattle.tcl_poly.proofs.multiplication.scale.Goals as goal

pub returns-clause-over : goal.returns-clause-over
returns-clause-over g c =
    let m = g.R.Ring.modulus_of c.args.ring.now in let value = g.R.Ring.amount c.args.ring.now in
    let f = value c.args.c.now in let a = p.terms_of value c.args.a.now in let s = p.terms_of value c.in_ok-terms.terms.items in
    let product : s ≡ p.scaled (r.reduced_by m) ([], f) a = search rules in
    scaled_over (r.reduced_by m) (is_reduction m (g.met.R.Ring.is_modulus c.args.ring.now)) f a s product c.requires

pub returns-clause-coefficients : goal.returns-clause-coefficients
returns-clause-coefficients g c =
    let m = g.R.Ring.modulus_of c.args.ring.now in let value = g.R.Ring.amount c.args.ring.now in
    let f = value c.args.c.now in let a = p.terms_of value c.args.a.now in let s = p.terms_of value c.in_ok-terms.terms.items in
    let product : s ≡ p.scaled (r.reduced_by m) ([], f) a = search rules in
    scaled_coefficients (r.reduced_by m) (is_reduction m (g.met.R.Ring.is_modulus c.args.ring.now)) f a s product c.requires

pub returns-clause-values : goal.returns-clause-values
returns-clause-values g c =
    let m = g.R.Ring.modulus_of c.args.ring.now in let value = g.R.Ring.amount c.args.ring.now in
    let f = value c.args.c.now in let a = p.terms_of value c.args.a.now in let s = p.terms_of value c.in_ok-terms.terms.items in
    let product : s ≡ p.scaled (r.reduced_by m) ([], f) a = search rules in
    scaled_values (r.reduced_by m) (is_reduction m (g.met.R.Ring.is_modulus c.args.ring.now)) f a s product
