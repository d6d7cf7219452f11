-- The monomials begin with no factor.
use Rattle.std.proofs.Common.{◌+◌, ◌≤◌, ◌∙◌, ap, subst, arith}
use Rattle.std.specs.Prelude.{IfOk}
use Rattle.tcl_poly.specs.Polynomial as p
use Rattle.tcl_poly.proofs.TermLists.{degree_of_values}
use Rattle.tcl_reduce.specs.Multiple.{monomials_over}
use Rattle.tcl_pivots.specs.CofactorLists.{equations_of}
use Rattle.tcl_pivots.specs.RowState.{pivot_shown}
use Rattle.tcl_member.specs.Course.{keys_in, products_by, IsGone}
use Rattle.tcl_member.proofs.Listings.{row_fits}
use Rattle.tcl_member.proofs.search.Search.try_row.Goals as goal

pub returns-clause-gone : goal.returns-clause-gone
returns-clause-gone g c =
    let m = g.R.Ring.modulus_of c.args.ring.now in let value = g.R.Ring.amount c.args.ring.now in
    let us = keys_in c.args.unknowns.now in let x = pivot_shown value c.args.pivot.now in
    let fits : p.degree_of x.row.poly + c.args.by ≤ c.args.limit = omega (arith, c.if-degree-by.false, c.degree.ensures, degree_of_values value c.args.pivot.now.row.poly) in
    subst (λ z. IfOk c.try_monomials.result (λ turn. IsGone m value (equations_of value c.args.equations.now) (p.terms_of value c.args.claim.now) c.args.place c.args.budget z c.args.self.now c.try_monomials.new.self (g.P.Port.polls c.args.port.now) (g.P.Port.polls c.try_monomials.new.port) (g.P.Port.cancels c.args.port.now) (g.P.Port.cancels c.try_monomials.new.port) turn))
    (ap (λ z. products_by x z (monomials_over us c.args.by)) c.new-front.ensures ∙ row_fits us c.args.limit c.args.by x fits) c.try_monomials.ensures.gone
