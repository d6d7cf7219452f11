-- A place for each number so far.
use Rattle.std.proofs.Common.{◌≡◌, length}
use Rattle.tcl_bench.proofs.membership.places_of.Given as goal

abbrev pub invariant-loop-k : goal.invariant-loop-k
invariant-loop-k l = length l.places ≡ l.k
