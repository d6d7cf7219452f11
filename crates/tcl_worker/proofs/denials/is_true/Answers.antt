-- What is computed as `Yes` is true.
use Rattle.std.proofs.Common.{sym, ◌∙◌}
use Rattle.tcl_enum.proofs.Truths.{yes_is_true}
use Rattle.tcl_worker.proofs.denials.is_true.Goals as goal

pub returns-in-Yes : goal.returns-in-Yes
returns-in-Yes c e = yes_is_true c.args.ssa.now c.args.values.now c.args.place c.requires (sym c.holds.ensures ∙ c.in-Yes.is)
