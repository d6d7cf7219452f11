-- The bits so far and those that are left.
use Rattle.std.proofs.Common.{◌≡◌, ◌++◌, drop, flat_map}
use Rattle.tcl_goals.specs.Free as free
use Rattle.tcl_goals.proofs.free.bits_of.Given as goal

abbrev pub invariant-loop-k : goal.invariant-loop-k
invariant-loop-k l = l.bits ++ flat_map (free.bits_of l.variables) (drop l.k l.chosen) ≡ flat_map (free.bits_of l.variables) l.chosen
