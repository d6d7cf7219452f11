-- The starts are those at the goal's place.
use Rattle.std.proofs.Common.{◌≡◌, ◌∙◌, List, subst}
use Rattle.std.specs.Prelude.{IfOk}
use Rattle.tcl_goals.specs.declared.fact.Hyp.{Hyp}
use Rattle.tcl_goals.proofs.Numbers.{defaults_are}
use Rattle.tcl_goals.proofs.cuts.default_hyps.Goals as goal

pub returns : goal.returns
returns c =
    let same = c.as_slice-lines.ensures ∙ c.lines.ensures.lines in
    let is = defaults_are c.args.ssa.now.lines c.as_slice-lines.result.now c.args.goal c.goal_place-place.result c.starts_at.result same c.goal_place-place.ensures.place c.starts_at.ensures in
    subst (λ (hyps : List Hyp). IfOk c.hyps_before.result (λ found. found ≡ hyps)) is c.hyps_before.ensures
