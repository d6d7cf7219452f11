use Rattle.std.proofs.Common.{refl, sym, ap, ◌∙◌, map, length, nat_lt}
use Rattle.tcl_board.specs.Sight.{seen_of}
use Rattle.tcl_board.proofs.Knowing.{fitting_turn, fitting_all, none_next}
use Rattle.tcl_board.proofs.telling.lemmas_up_to.Goals as goal

pub loop-number-init : goal.loop-number-init
loop-number-init g c = rw (c.new-lemmas.ensures) (refl, none_next, refl)

pub loop-number-preserved : goal.loop-number-preserved
loop-number-preserved g c = (
  fitting_turn c.args.goal c.loop-number.number (map (seen_of g.E.Evidence.shows g.E.Evidence.cited) c.args.kept.now) c.args.marks.now _ _ _ c.loop-number-test.true c.fitting.ensures c.in_ok-push.ensures.pushed
      ∙ c.loop-number.invariant.0,
  c.in_ok-push.ensures.next,
  c.in_ok-push.ensures.more ∙ c.loop-number.invariant.2,
)

pub returns : goal.returns
returns g c =
    c.set_more.ensures
    ∙ ap (λ items. record { items = items; more = nat_lt (length c.args.marks.now) 512 })
    (sym (fitting_all c.args.goal (map (seen_of g.E.Evidence.shows g.E.Evidence.cited) c.args.kept.now) c.args.marks.now _ c.loop-number.number c.loop-number-test.false) ∙ c.loop-number.invariant.0)
