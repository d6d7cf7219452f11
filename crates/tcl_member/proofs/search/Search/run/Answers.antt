-- The products are tried where the rows leave something of the claim.
use Rattle.std.proofs.Common.{◌∙◌}
use Rattle.tcl_poly.specs.Polynomial as p
use Rattle.tcl_reduce.specs.Multiple.{multiples_to}
use Rattle.tcl_pivots.specs.CofactorLists.{equations_of}
use Rattle.tcl_pivots.specs.Held.{pivots_shown}
use Rattle.tcl_member.specs.Course.{keys_in, IsGone, IsRun}
use Rattle.tcl_member.proofs.Booleans.{never}
use Rattle.tcl_member.proofs.Courses.{if_ok, run_over}
use Rattle.tcl_member.proofs.search.Search.run.Goals as goal

pub returns-clause-run : goal.returns-clause-run
returns-clause-run g c =
    let m = g.R.Ring.modulus_of c.args.ring.now in let value = g.R.Ring.amount c.args.ring.now in
    let es = equations_of value c.args.equations.now in let claim = p.terms_of value c.args.claim.now in
    let xs = multiples_to (keys_in c.args.unknowns.now) c.args.limit (pivots_shown value c.args.pivots.now) c.args.limit in
    let start = c.settle.new.self in let after = c.try_products.new.self in
    let made = c.in_ok-settle.ensures in
    let polls = g.P.Port.polls c.args.port.now in let polls' = g.P.Port.polls c.try_products.new.port in
    let cancels = g.P.Port.cancels c.args.port.now in let cancels' = g.P.Port.cancels c.try_products.new.port in
    if_ok c.try_products.result (λ turn. IsGone m value es claim c.args.place c.args.budget xs start after polls polls' cancels cancels' turn) (λ turn. IsRun m value es claim c.args.place c.args.budget xs c.args.self.now after polls polls' cancels cancels' turn)
    (λ turn gone. run_over m value es claim c.args.place c.args.budget xs c.args.self.now start after polls polls' cancels cancels' turn (λ e. never (c.if-is_zero.ensures.1 e)) (made.tried ∙ c.requires.tried) (made.left ∙ c.requires.left) made.settled gone)
    c.try_products.ensures.gone
