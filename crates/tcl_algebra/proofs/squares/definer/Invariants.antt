-- No line before this one defines the variable.
use Rattle.std.proofs.Common.{◌≡◌, drop}
use Rattle.tcl_algebra.specs.Equations.{definer_from}
use Rattle.tcl_algebra.proofs.squares.definer.Given as goal

abbrev pub invariant-loop-k : goal.invariant-loop-k
invariant-loop-k l = definer_from l.k (drop l.k l.lines) l.v ≡ definer_from 0 l.lines l.v
