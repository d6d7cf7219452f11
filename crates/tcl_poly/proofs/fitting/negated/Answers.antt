-- The laws of the negation, for the terms that were made.
use Rattle.std.proofs.Common.{rules, ◌≡◌, [], negsuc}
use Rattle.tcl_ring.specs.Reduction as r
use Rattle.tcl_ring.proofs.Reductions.{is_reduction}
use Rattle.tcl_poly.specs.Polynomial as p
use Rattle.tcl_poly.proofs.Values.{scaled_over, negated_values}
use Rattle.tcl_poly.proofs.fitting.negated.Goals as goal

pub returns-clause-over : goal.returns-clause-over
returns-clause-over g c =
    let m = g.R.Ring.modulus_of c.args.ring.now in let value = g.R.Ring.amount c.args.ring.now in
    let ring = is_reduction m (g.met.R.Ring.is_modulus c.args.ring.now) in
    let a = p.terms_of value c.args.a.now in let s = p.terms_of value c.in_ok-terms.terms.items in
    let made : s ≡ p.scaled (r.reduced_by m) ([], negsuc 0) a = search rules in
    scaled_over (r.reduced_by m) ring (negsuc 0) a s made c.requires.over

pub returns-clause-values : goal.returns-clause-values
returns-clause-values g c =
    let m = g.R.Ring.modulus_of c.args.ring.now in let value = g.R.Ring.amount c.args.ring.now in
    let ring = is_reduction m (g.met.R.Ring.is_modulus c.args.ring.now) in
    let a = p.terms_of value c.args.a.now in let s = p.terms_of value c.in_ok-terms.terms.items in
    let made : s ≡ p.scaled (r.reduced_by m) ([], negsuc 0) a = search rules in
    negated_values (r.reduced_by m) ring a s made
