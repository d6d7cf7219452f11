-- The computed truth is never `Wide`, and is the truth.
use Rattle.std.proofs.Common.{sym, ◌∙◌}
use Rattle.tcl_enum.proofs.Truths.{never_wide, yes_is_true, no_is_false}
use Rattle.tcl_enum.proofs.denial.is_true.Goals as goal

pub returns-in-Yes : goal.returns-in-Yes
returns-in-Yes c = sym (yes_is_true c.args.ssa.now c.args.values.now c.args.place c.requires.values (sym c.holds.ensures ∙ c.in-Yes.is))

pub returns-in-No : goal.returns-in-No
returns-in-No c = sym (no_is_false c.args.ssa.now c.args.values.now c.args.place (sym c.holds.ensures ∙ c.in-No.is))

pub returns-in-Wide : goal.returns-in-Wide
returns-in-Wide c = absurd (never_wide c.args.ssa.now c.args.values.now c.args.place c.requires.values c.requires.narrow (sym c.holds.ensures ∙ c.in-Wide.is))
