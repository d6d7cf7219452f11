-- The hypotheses before the line.
use Rattle.std.proofs.Common.{◌≡◌}
use Rattle.tcl_goals.specs.Defaults as defaults
use Rattle.tcl_goals.proofs.cuts.hyps_before.Given as goal

abbrev pub invariant-loop-k : goal.invariant-loop-k
invariant-loop-k l = l.hyps ≡ defaults.hyps_before l.lines l.starts l.k
