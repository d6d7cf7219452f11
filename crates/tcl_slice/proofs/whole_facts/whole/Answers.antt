-- The parts are those of the fact.
use Rattle.std.proofs.Common.{◌∙◌, ap, List}
use Rattle.tcl_goals.specs.declared.fact.BitLit.{BitLit}
use Rattle.tcl_goals.specs.declared.fact.Claim.TheVariants as claim
use Rattle.tcl_goals.specs.declared.fact.Fact.{Fact}
use Rattle.tcl_slice.proofs.Before.{whole_is}
use Rattle.tcl_slice.proofs.whole_facts.whole.Goals as goal

pub returns : goal.returns
returns c =
    let hyps = c.in_ok-hyps.hyps in
    let uses = c.in_ok-uses.uses in
    let with_cube : List BitLit → Fact = λ cube. record { claim = claim.Goal c.args.goal; hyps = hyps; cube = cube; uses = uses } in
    ap with_cube c.new.ensures
    ∙ whole_is c.args.ssa.now c.as_slice-lines.result.now c.args.goal c.goal_place-place.result hyps uses
    (c.as_slice-lines.ensures ∙ c.lines.ensures.lines) c.goal_place-place.ensures.place c.in_ok-hyps.ensures c.in_ok-uses.ensures
