-- One run more in which the hypotheses hold.
use Rattle.tcl_worker.specs.Denials.{MeetsHyps}
use Rattle.tcl_worker.proofs.MeetingRuns.{all_pushed}
use Rattle.tcl_worker.proofs.denials.add_if_met.Goals as goal

pub returns-then-meets : goal.returns-then-meets
returns-then-meets c =
    all_pushed (MeetsHyps c.args.ssa.now c.args.fact.now) c.args.runs.now c.args.values c.push.new.self c.push.result
    c.push.ensures.pushed c.requires.met (record { assigns = c.requires.assigns; hyps = c.meets.ensures c.if-meets.true })
