-- Each turn tries the products with monomials of the next degree.
use Rattle.std.proofs.Common.{◌+◌, refl, sym, arith, ◌∙◌}
use Rattle.tcl_poly.specs.Polynomial as p
use Rattle.tcl_reduce.specs.Multiple.{multiples_to, multiples_at}
use Rattle.tcl_pivots.specs.CofactorLists.{equations_of}
use Rattle.tcl_pivots.specs.Held.{pivots_shown}
use Rattle.tcl_member.specs.Course.{keys_in}
use Rattle.tcl_member.proofs.Courses.{gone_none, gone_next, gone_last}
use Rattle.tcl_member.proofs.Listings.{degrees_next, degrees_whole}
use Rattle.tcl_member.proofs.search.Search.try_products.Goals as goal

pub loop-lower-init : goal.loop-lower-init
loop-lower-init g c =
    let m = g.R.Ring.modulus_of c.args.ring.now in let value = g.R.Ring.amount c.args.ring.now in
    gone_none m value (equations_of value c.args.equations.now) (p.terms_of value c.args.claim.now) c.args.place c.args.budget c.args.self.now (g.P.Port.polls c.args.port.now) (g.P.Port.cancels c.args.port.now) c.requires.on c.requires.below

pub try_degree-requires-clause-on : goal.try_degree-requires-clause-on
try_degree-requires-clause-on g c = c.loop-lower.invariant.on

pub try_degree-requires-clause-below : goal.try_degree-requires-clause-below
try_degree-requires-clause-below g c = c.loop-lower.invariant.below refl

pub loop-lower-preserved : goal.loop-lower-preserved
loop-lower-preserved g c =
    let m = g.R.Ring.modulus_of c.args.ring.now in let value = g.R.Ring.amount c.args.ring.now in
    let us = keys_in c.args.unknowns.now in let ps = pivots_shown value c.args.pivots.now in
    let at = c.loop-lower in
    gone_next m value (equations_of value c.args.equations.now) (p.terms_of value c.args.claim.now) c.args.place c.args.budget (multiples_to us c.args.limit ps at.lower) (multiples_at us c.args.limit (at.lower + 1) ps) (multiples_to us c.args.limit ps (at.lower + 1)) c.args.self.now at.self c.try_degree.new.self
    (g.P.Port.polls c.args.port.now) (g.P.Port.polls at.port) (g.P.Port.polls c.try_degree.new.port) (g.P.Port.cancels c.args.port.now) (g.P.Port.cancels at.port) (g.P.Port.cancels c.try_degree.new.port) c.in_ok-turn.turn at.invariant c.in_ok-turn.ensures.gone (sym c.is_end.ensures ∙ c.if-is_end.false) (degrees_next us c.args.limit ps at.lower)

pub returns-then-is_end-clause-gone : goal.returns-then-is_end-clause-gone
returns-then-is_end-clause-gone g c =
    let m = g.R.Ring.modulus_of c.args.ring.now in let value = g.R.Ring.amount c.args.ring.now in
    let us = keys_in c.args.unknowns.now in let ps = pivots_shown value c.args.pivots.now in
    let at = c.loop-lower in
    gone_last m value (equations_of value c.args.equations.now) (p.terms_of value c.args.claim.now) c.args.place c.args.budget (multiples_to us c.args.limit ps at.lower) (multiples_at us c.args.limit (at.lower + 1) ps) (multiples_to us c.args.limit ps (at.lower + 1)) (multiples_to us c.args.limit ps c.args.limit) c.args.self.now at.self c.try_degree.new.self
    (g.P.Port.polls c.args.port.now) (g.P.Port.polls at.port) (g.P.Port.polls c.try_degree.new.port) (g.P.Port.cancels c.args.port.now) (g.P.Port.cancels at.port) (g.P.Port.cancels c.try_degree.new.port) c.in_ok-turn.turn at.invariant c.in_ok-turn.ensures.gone (sym c.is_end.ensures ∙ c.if-is_end.true) (degrees_next us c.args.limit ps at.lower)
    (degrees_whole us c.args.limit ps (at.lower + 1) c.args.limit (omega (arith, c.loop-lower-test.true)))
