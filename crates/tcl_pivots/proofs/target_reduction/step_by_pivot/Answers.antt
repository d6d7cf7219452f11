-- Where the claim itself is not too great, the quotient fits.
use Rattle.std.proofs.Common.{false, sym, ◌∙◌, ap, ◌*ℤ◌, unsigned_abs}
use Rattle.tcl_ring.specs.Reduction as r
use Rattle.tcl_poly.specs.Polynomial as p
use Rattle.tcl_pivots.specs.CofactorLists.{equations_of}
use Rattle.tcl_pivots.specs.RowState.{pivot_shown}
use Rattle.tcl_pivots.specs.TargetState.{target_shown}
use Rattle.tcl_pivots.proofs.TargetReducing.{aim_narrow}
use Rattle.tcl_pivots.proofs.target_reduction.step_by_pivot.Goals as goal

pub target_less-requires-clause-quotient : goal.target_less-requires-clause-quotient
target_less-requires-clause-quotient g c =
    let m = g.R.Ring.modulus_of c.args.ring.now in let value = g.R.Ring.amount c.args.ring.now in
    let es = equations_of value c.args.equations.now in let claim = p.terms_of value c.args.claim.now in
    let f = target_shown value false c.args.f.now in let q = pivot_shown value c.args.pivot.now in
    let small = sym c.is_too_great.ensures ∙ c.if-is_too_great.false in
    let narrow = aim_narrow m (g.met.R.Ring.is_modulus c.args.ring.now) es claim f q c.requires.equations c.requires.claim c.requires.target c.requires.kept small in
    let found = rw c.in-Some.is at c.leading_coefficient.ensures in
    ap (λ x. r.is_wide m (unsigned_abs (x *ℤ q.inverse))) found.0 ∙ narrow
