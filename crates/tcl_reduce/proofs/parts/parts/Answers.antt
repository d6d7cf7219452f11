-- One term more, and the end of the list.
use Rattle.std.proofs.Common.{◌≡◌, ◌∷◌, length, sym, ◌∙◌, ap, arith}
use Rattle.std.specs.Vec.Iter.{into_iter_items}
use Rattle.tcl_reduce.proofs.PartLists.{parts_turn, top_turn, parts_end, top_end}
use Rattle.tcl_reduce.proofs.parts.parts.Goals as goal

pub loop-term-preserved : goal.loop-term-preserved
loop-term-preserved g c =
    let u = c.args.key in let f = c.args.f in let at = c.loop-term in
    let all = into_iter_items at.term-iterator in let rest = into_iter_items c.next.new.self in
    let t = c.in-Some.term in
    let steps : all ≡ t ∷ rest = c.in-Some.ensures.steps.0 in
    let old = at.parts.items in let new = c.add_term.new.parts.items in
    let long = c.in_ok-add_term.ensures.length in (
      omega (arith, long),
      top_turn u f all rest t (length old) (length new) steps long at.invariant.1,
      parts_turn u f all rest t old new steps c.in_ok-add_term.ensures.added at.invariant.2,
      omega (arith, at.invariant.3, c.in-Some.ensures.steps.1, ap length steps),
    )

pub returns : goal.returns
returns g c =
    let u = c.args.key in let f = c.args.f in let at = c.loop-term in
    let rest = into_iter_items at.term-iterator in
    let end : length rest ≡ 0 = sym at.invariant.3 ∙ c.in-None.ensures.steps.0 in (
      top_end u f rest (length at.parts.items) at.invariant.0 end at.invariant.1,
      parts_end u f rest at.parts.items end at.invariant.2,
    )
