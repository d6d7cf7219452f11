-- The cuts before the line.
use Rattle.std.proofs.Common.{◌≡◌}
use Rattle.tcl_goals.specs.Defaults.{cuts_at}
use Rattle.tcl_goals.proofs.cuts.starts_at.Given as goal

abbrev pub invariant-loop-k : goal.invariant-loop-k
invariant-loop-k l = cuts_at l.lines l.k ≡ l.cuts
