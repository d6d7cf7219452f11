-- The weight of the cofactors from k on.
use Rattle.std.proofs.Common.{◌≡◌, ◌≤◌, ◌^◌, length, drop, min}
use Rattle.tcl_poly.specs.Combination.{weight_of}
use Rattle.tcl_reduce.specs.Answer.{numbered}
use Rattle.tcl_pivots.proofs.weight.weight.Given as goal

abbrev pub invariant-loop-k : goal.invariant-loop-k
invariant-loop-k g l =
    (l.k ≤ length l.cofactors)
    × (l.weight ≡ min (weight_of (g.R.Ring.amount l.ring) l.equations (numbered (drop l.k l.cofactors))) (2 ^ 127))

abbrev pub decreases-loop-k : goal.decreases-loop-k
decreases-loop-k g l = l.k
