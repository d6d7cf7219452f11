-- The negation is as great as what is negated.
use Rattle.tcl_poly.specs.Polynomial as p
use Rattle.tcl_term_poly.proofs.Negations.{negation_fits}
use Rattle.tcl_term_poly.proofs.term.difference.Goals as goal

pub sum-requires-clause-fits : goal.sum-requires-clause-fits
sum-requires-clause-fits g c =
    let m = g.R.Ring.modulus_of c.args.ring.now in let value = g.R.Ring.amount c.args.ring.now in
    negation_fits m (p.terms_of value c.args.a) (p.terms_of value c.args.b.now) (p.terms_of value c.in_ok-b.b) c.in_ok-b.ensures.negation c.requires.fits
