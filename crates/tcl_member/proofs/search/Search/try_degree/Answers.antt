-- Each turn tries the products of the next row.
use Rattle.std.proofs.Common.{◌+◌, [], ◌∷◌, take, refl, sym, subst, arith, ◌∙◌}
use Rattle.tcl_poly.specs.Polynomial as p
use Rattle.tcl_pivots.specs.CofactorLists.{equations_of}
use Rattle.tcl_pivots.specs.RowState.{pivot_shown}
use Rattle.tcl_pivots.specs.Held.{pivots_shown}
use Rattle.tcl_reduce.specs.Multiple.{multiples_at}
use Rattle.tcl_member.specs.declared.search.Turn.TheVariants.{Going}
use Rattle.tcl_member.specs.Course.{keys_in, IsGone}
use Rattle.tcl_member.proofs.PivotLists.{pivot_read, pivots_below, pivots_whole, tried_at, some_raw}
use Rattle.tcl_member.proofs.Courses.{gone_none, gone_next, gone_last}
use Rattle.tcl_member.proofs.Listings.{rows_next, rows_whole}
use Rattle.tcl_member.proofs.search.Search.try_degree.Goals as goal

pub loop-i-init : goal.loop-i-init
loop-i-init g c =
    let m = g.R.Ring.modulus_of c.args.ring.now in let value = g.R.Ring.amount c.args.ring.now in
    (omega arith, gone_none m value (equations_of value c.args.equations.now) (p.terms_of value c.args.claim.now) c.args.place c.args.budget c.args.self.now (g.P.Port.polls c.args.port.now) (g.P.Port.cancels c.args.port.now) c.requires.on c.requires.below)

pub try_row-requires-clause-on : goal.try_row-requires-clause-on
try_row-requires-clause-on g c = c.loop-i.invariant.1.on

pub try_row-requires-clause-below : goal.try_row-requires-clause-below
try_row-requires-clause-below g c = c.loop-i.invariant.1.below refl

pub loop-i-preserved : goal.loop-i-preserved
loop-i-preserved g c =
    let m = g.R.Ring.modulus_of c.args.ring.now in let value = g.R.Ring.amount c.args.ring.now in
    let us = keys_in c.args.unknowns.now in let ps = pivots_shown value c.args.pivots.now in
    let at = c.loop-i in let x = c.index-pivots-i.result in
    let shown = pivot_read value c.args.pivots.now at.i x c.index-pivots-i.is c.loop-i-test.true in
    let below = pivots_below value c.args.pivots.now at.i c.loop-i-test.true in (
      omega (arith, c.loop-i-test.true),
      gone_next m value (equations_of value c.args.equations.now) (p.terms_of value c.args.claim.now) c.args.place c.args.budget (multiples_at us c.args.limit c.args.by (take at.i ps)) (multiples_at us c.args.limit c.args.by (pivot_shown value x ∷ [])) (multiples_at us c.args.limit c.args.by (take (at.i + 1) ps)) c.args.self.now at.self c.try_row.new.self
          (g.P.Port.polls c.args.port.now) (g.P.Port.polls at.port) (g.P.Port.polls c.try_row.new.port) (g.P.Port.cancels c.args.port.now) (g.P.Port.cancels at.port) (g.P.Port.cancels c.try_row.new.port) c.in_ok-turn.turn at.invariant.1 c.in_ok-turn.ensures.gone (sym c.is_end.ensures ∙ c.if-is_end.false) (rows_next us c.args.limit c.args.by ps at.i (pivot_shown value x) shown below),
    )

pub returns-then-is_end-clause-gone : goal.returns-then-is_end-clause-gone
returns-then-is_end-clause-gone g c =
    let m = g.R.Ring.modulus_of c.args.ring.now in let value = g.R.Ring.amount c.args.ring.now in
    let us = keys_in c.args.unknowns.now in let ps = pivots_shown value c.args.pivots.now in
    let at = c.loop-i in let x = c.index-pivots-i.result in
    let shown = pivot_read value c.args.pivots.now at.i x c.index-pivots-i.is c.loop-i-test.true in
    let below = pivots_below value c.args.pivots.now at.i c.loop-i-test.true in
    gone_last m value (equations_of value c.args.equations.now) (p.terms_of value c.args.claim.now) c.args.place c.args.budget (multiples_at us c.args.limit c.args.by (take at.i ps)) (multiples_at us c.args.limit c.args.by (pivot_shown value x ∷ [])) (multiples_at us c.args.limit c.args.by (take (at.i + 1) ps)) (multiples_at us c.args.limit c.args.by ps) c.args.self.now at.self c.try_row.new.self
    (g.P.Port.polls c.args.port.now) (g.P.Port.polls at.port) (g.P.Port.polls c.try_row.new.port) (g.P.Port.cancels c.args.port.now) (g.P.Port.cancels at.port) (g.P.Port.cancels c.try_row.new.port) c.in_ok-turn.turn at.invariant.1 c.in_ok-turn.ensures.gone (sym c.is_end.ensures ∙ c.if-is_end.true) (rows_next us c.args.limit c.args.by ps at.i (pivot_shown value x) shown below)
    (rows_whole us c.args.limit c.args.by ps (at.i + 1))

pub returns-clause-gone : goal.returns-clause-gone
returns-clause-gone g c =
    let m = g.R.Ring.modulus_of c.args.ring.now in let value = g.R.Ring.amount c.args.ring.now in
    let us = keys_in c.args.unknowns.now in let ps = pivots_shown value c.args.pivots.now in
    let at = c.loop-i in
    subst (λ z. IsGone m value (equations_of value c.args.equations.now) (p.terms_of value c.args.claim.now) c.args.place c.args.budget (multiples_at us c.args.limit c.args.by z) c.args.self.now at.self (g.P.Port.polls c.args.port.now) (g.P.Port.polls at.port) (g.P.Port.cancels c.args.port.now) (g.P.Port.cancels at.port) Going)
    (pivots_whole value c.args.pivots.now at.i (omega (arith, c.loop-i-test.false))) at.invariant.1

pub try_row-requires-clause-pivot : goal.try_row-requires-clause-pivot
try_row-requires-clause-pivot g c =
    let m = g.R.Ring.modulus_of c.args.ring.now in let value = g.R.Ring.amount c.args.ring.now in
    (tried_at m (equations_of value c.args.equations.now) value c.args.pivots.now c.loop-i.i c.index-pivots-i.result c.index-pivots-i.is c.loop-i-test.true c.requires.pivots).0

pub try_row-requires-clause-some : goal.try_row-requires-clause-some
try_row-requires-clause-some g c =
    let m = g.R.Ring.modulus_of c.args.ring.now in let value = g.R.Ring.amount c.args.ring.now in
    some_raw value c.index-pivots-i.result.row.poly (tried_at m (equations_of value c.args.equations.now) value c.args.pivots.now c.loop-i.i c.index-pivots-i.result c.index-pivots-i.is c.loop-i-test.true c.requires.pivots).1
