-- `Wide` is looked for first.
use Rattle.std.proofs.Common.{rules, ◌≡◌, ◌∙◌, true, false}
use Rattle.tcl_enum.specs.NarrowFact.{is_narrow_fact}
use Rattle.tcl_enum.specs.Enumeration.{ended_by, first_denial}
use Rattle.tcl_enum.proofs.Endings.{ends_wide, ends_by, is_end}
use Rattle.tcl_enum.proofs.walking.enumerate.Goals as goal

pub returns-then-not-is_narrow_fact : goal.returns-then-not-is_narrow_fact
returns-then-not-is_narrow_fact c =
    let wide : is_narrow_fact c.args.ssa.now c.args.fact.now ≡ false = search rules in
    ends_wide c.args.ssa.now c.args.lemmas.now.items c.args.fact.now wide

pub returns-in-Ok : goal.returns-in-Ok
returns-in-Ok c =
    let p = c.args.ssa.now in
    let lemmas = c.args.lemmas.now.items in
    let fact = c.args.fact.now in
    let narrow : is_narrow_fact p fact ≡ true = search rules in
    let ended : c.in-Ok.ended ≡ ended_by p lemmas fact (first_denial p lemmas fact) = search rules in
    is_end _ c.in-Ok.ended (ended ∙ ends_by p lemmas fact narrow)
