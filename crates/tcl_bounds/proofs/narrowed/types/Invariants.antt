-- The variables before this one have their intervals.
use Rattle.std.proofs.Common.{◌≡◌, take}
use Rattle.tcl_bounds.specs.Bounds.{wholes}
use Rattle.tcl_bounds.proofs.narrowed.types.Given as goal

abbrev pub invariant-loop-k : goal.invariant-loop-k
invariant-loop-k l = l.bounds.items ≡ wholes (take l.k l.variables)
