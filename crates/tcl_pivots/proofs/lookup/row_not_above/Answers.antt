-- The first term's monomial is the leading one.
use Rattle.std.proofs.Common.{rules, ◌≡◌, subst}
use Rattle.tcl_poly.specs.Monomial.{Monomial}
use Rattle.tcl_pivots.specs.Held.{front_monomial, pivots_shown, pivots_at}
use Rattle.tcl_pivots.specs.Lookup.{AreAbove}
use Rattle.tcl_pivots.proofs.lookup.row_not_above.Goals as goal

pub returns-clause-above : goal.returns-clause-above
returns-clause-above g c =
    let qs = pivots_at (pivots_shown (g.R.Ring.amount c.args.ring.now) c.args.kept.now) c.args.order.now in
    let P : Monomial → Type 0 = λ z. AreAbove qs z 0 c.place_not_above.result in
    let front : c.in-Some.first.now.0 ≡ front_monomial c.args.a.now = search rules in
    subst P front c.place_not_above.ensures.above
