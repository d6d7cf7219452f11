-- In each run so far the hypotheses hold.
use Rattle.std.proofs.Common.{All}
use Rattle.tcl_worker.specs.Denials.{MeetsHyps}
use Rattle.tcl_worker.proofs.denials.meeting_runs.Given as goal

abbrev pub invariant-loop-k : goal.invariant-loop-k
invariant-loop-k l = All (MeetsHyps l.ssa l.fact) l.runs
