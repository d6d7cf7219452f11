-- The variables that are left.
use Rattle.std.proofs.Common.{◌≡◌, drop}
use Rattle.tcl_slice.specs.Touching as touching
use Rattle.tcl_slice.proofs.search.Search.reach_all.Given as goal

abbrev pub invariant-loop-k : goal.invariant-loop-k
invariant-loop-k l = touching.reached_all l.self (drop l.k l.vs) ≡ touching.reached_all l.fn.self l.vs
