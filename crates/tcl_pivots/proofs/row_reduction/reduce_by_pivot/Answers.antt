-- The quotient of a step fits.
use Rattle.std.proofs.Common.{◌∙◌, ap, ◌*ℤ◌, unsigned_abs}
use Rattle.tcl_ring.specs.Reduction as r
use Rattle.tcl_pivots.specs.CofactorLists.{equations_of}
use Rattle.tcl_pivots.specs.RowState.{row_shown, pivot_shown}
use Rattle.tcl_pivots.proofs.Quotients.{quotient_narrow}
use Rattle.tcl_pivots.proofs.row_reduction.reduce_by_pivot.Goals as goal

pub row_less-requires-clause-quotient : goal.row_less-requires-clause-quotient
row_less-requires-clause-quotient g c =
    let m = g.R.Ring.modulus_of c.args.ring.now in let value = g.R.Ring.amount c.args.ring.now in
    let es = equations_of value c.args.equations.now in
    let a = row_shown value c.args.a in let q = pivot_shown value c.args.pivot.now in
    let narrow = quotient_narrow m es a q c.requires.equations c.requires.row c.requires.kept in
    let found = rw c.in-Some.is at c.leading_coefficient.ensures in
    ap (λ x. r.is_wide m (unsigned_abs (x *ℤ q.inverse))) found.0 ∙ narrow
