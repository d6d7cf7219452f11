-- Each turn adds the row of the next equation.
use Rattle.std.proofs.Common.{◌≡◌, ◌-◌, length, arith, ◌∙◌, ap}
use Rattle.tcl_reduce.specs.Answer.{definitions_of}
use Rattle.tcl_reduce.specs.Row as s
use Rattle.tcl_pivots.specs.CofactorLists.{equations_of}
use Rattle.tcl_pivots.specs.Held.{rows_shown}
use Rattle.tcl_member.proofs.Holding.{equations_count}
use Rattle.tcl_member.proofs.Beginnings.{definitions_count, rows_next, defined_before}
use Rattle.tcl_member.proofs.begin.rows_of.Goals as goal

pub loop-number-preserved : goal.loop-number-preserved
loop-number-preserved g c =
    let m = g.R.Ring.modulus_of c.args.ring.now in let value = g.R.Ring.amount c.args.ring.now in (
      rows_next m value c.args.defs.now (equations_of value c.args.list.now) c.args.equations.now.places c.loop-number.number c.place-place.result (rows_shown value c.loop-number.rows) (rows_shown value c.add_equation.new.rows)
          (omega (arith, c.loop-number.auto.number, c.len-first.ensures.len)) c.place-place.ensures c.loop-number.invariant.0 c.in_ok-add_equation.ensures.added,
      c.in_ok-add_equation.ensures.held,
    )

pub returns-clause-rows : goal.returns-clause-rows
returns-clause-rows g c =
    let m = g.R.Ring.modulus_of c.args.ring.now in let value = g.R.Ring.amount c.args.ring.now in
    let before = defined_before m value c.args.defs.now c.args.list.now c.requires.known in
    let xs = definitions_of value c.args.defs.now in let es = equations_of value c.args.list.now in
    let end : c.loop-number.number - length c.args.defs.now ≡ length es - length xs =
    omega (arith, before, c.len-first.ensures.len, c.loop-number-test.false, c.loop-number.auto.number-end (omega (arith, before, c.len-first.ensures.len)), equations_count value c.args.list.now, definitions_count value c.args.defs.now) in
    c.loop-number.invariant.0 ∙ ap (s.rows_to m xs es c.args.equations.now.places) end
