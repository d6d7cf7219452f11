-- The hypotheses that are left have the answer.
use Rattle.std.proofs.Common.{◌≡◌, [], drop}
use Rattle.std.specs.List.{list_all}
use Rattle.tcl_goals.specs.Assignments.{hyp_of}
use Rattle.tcl_worker.proofs.denials.are_met.Given as goal

abbrev pub invariant-loop-k : goal.invariant-loop-k
invariant-loop-k l = list_all (hyp_of l.ssa [] l.values) (drop l.k l.hyps) ≡ list_all (hyp_of l.ssa [] l.values) l.hyps
