-- The numbers that are left have the answer.
use Rattle.std.proofs.Common.{◌≡◌, drop}
use Rattle.std.specs.List.{list_any}
use Rattle.tcl_goals.specs.Closure.{is_marked}
use Rattle.tcl_slice.proofs.search.is_any.Given as goal

abbrev pub invariant-loop-k : goal.invariant-loop-k
invariant-loop-k l = list_any (is_marked l.marks) (drop l.k l.vs) ≡ list_any (is_marked l.marks) l.vs
