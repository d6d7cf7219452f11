-- The difference fits where the bounds do.
use Rattle.std.proofs.Common.{◌+◌, arith}
use Rattle.tcl_poly.specs.Polynomial as p
use Rattle.tcl_lang.specs.Bound as bound
use Rattle.tcl_term_poly.proofs.TermArms.{sum_fits}
use Rattle.tcl_algebra.proofs.claim.sides.Goals as goal

pub difference-requires-clause-fits : goal.difference-requires-clause-fits
difference-requires-clause-fits g c =
    let m = g.R.Ring.modulus_of c.args.ring.now in
    let value = g.R.Ring.amount c.args.ring.now in
    let f = c.args.pred.now in
    sum_fits m (bound.norm_of f.left + bound.norm_of f.right) f.left f.right (p.terms_of value c.in_ok-left.left) (p.terms_of value c.in_ok-right.right)
    c.in_ok-left.ensures.polynomial c.in_ok-right.ensures.polynomial (omega arith) c.requires.fits
