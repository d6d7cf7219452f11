-- One product was tried.
use Rattle.std.proofs.Common.{◌+◌, arith}
use Rattle.tcl_poly.specs.Polynomial as p
use Rattle.tcl_pivots.specs.CofactorLists.{equations_of}
use Rattle.tcl_pivots.specs.RowState.{pivot_shown}
use Rattle.tcl_member.specs.declared.search.Search.{Search}
use Rattle.tcl_member.proofs.Courses.{gone_one}
use Rattle.tcl_member.proofs.search.Search.try_product.Goals as goal

pub returns-clause-gone : goal.returns-clause-gone
returns-clause-gone g c =
    let m = g.R.Ring.modulus_of c.args.ring.now in let value = g.R.Ring.amount c.args.ring.now in
    let made = c.in_ok-add_product.ensures in
    let after = c.add_product.new.self in
    let new : Search g.row.R.Denot g.row.R-Elem.Denot = record { rows = after.rows; target = after.target; tried = after.tried + 1; left = after.left } in
    gone_one m value (equations_of value c.args.equations.now) (p.terms_of value c.args.claim.now) c.args.place c.args.budget (pivot_shown value c.args.pivot.now, c.args.monomial.now) c.args.self.now new
    (g.P.Port.polls c.args.port.now) (g.P.Port.polls c.products_allowed.new.port) (g.P.Port.cancels c.args.port.now) (g.P.Port.cancels c.products_allowed.new.port) c.in-Some.allowed c.turn.result c.requires.below
    (omega (arith, made.tried)) made.left made.advanced (record { held = made.on.held; aimed = made.on.aimed }) (c.turn.ensures value) c.in-Some.ensures.polls c.in-Some.ensures.go.0 c.in-Some.ensures.go.1
