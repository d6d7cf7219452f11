-- The law of denials.
use Rattle.std.proofs.Common.{sym, ◌∙◌}
use Rattle.tcl_worker.proofs.MeetingRuns.{denied_met}
use Rattle.tcl_worker.proofs.denials.is_denied.Goals as goal

pub returns : goal.returns
returns c e =
    denied_met c.denials_meet_clauses.ensures.meet c.args.ssa.now c.args._fact.now c.args.bit c.args.runs.now c.requires.formed c.requires.order
    c.requires.met (sym c.have_denial.ensures ∙ e)
