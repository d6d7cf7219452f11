-- The hypotheses that are left have the answer.
use Rattle.std.proofs.Common.{◌≡◌, drop}
use Rattle.tcl_goals.specs.Keys as keys
use Rattle.tcl_goals.proofs.in_order.hyps_rise.Given as goal

abbrev pub invariant-loop-k : goal.invariant-loop-k
invariant-loop-k l = keys.hyps_after l.lines l.lemmas l.last (drop l.k l.hyps) ≡ keys.hyps_rise l.lines l.lemmas l.hyps
