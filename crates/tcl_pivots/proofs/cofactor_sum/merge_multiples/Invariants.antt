-- The cofactors so far, none of them too great, followed by the sum of what is left, are the whole sum.
use Rattle.std.proofs.Common.{length, ◌-◌, ◌+◌, ◌≡◌, ◌≤◌, ◌++◌, drop, false}
use Rattle.tcl_ring.specs.Reduction.{reduced_by}
use Rattle.tcl_pivots.specs.CofactorLists.{any_wide}
use Rattle.tcl_pivots.proofs.CofactorSums.{left_of}
use Rattle.tcl_pivots.proofs.CofactorTurns.{valued}
use Rattle.tcl_pivots.proofs.cofactor_sum.merge_multiples.Given as goal

abbrev pub invariant-loop-i : goal.invariant-loop-i
invariant-loop-i g l =
    let m = g.R.Ring.modulus_of l.ring in
    let value = g.R.Ring.amount l.ring in
    (l.i ≤ length l.a) × (l.j ≤ length l.b)
    × (valued value l.sum.items ++ left_of (reduced_by m) (value l.c) (valued value (drop l.i l.a)) (valued value (drop l.j l.b)) ≡ left_of (reduced_by m) (value l.c) (valued value l.a) (valued value l.b))
    × (any_wide m (valued value l.sum.items) ≡ false)

abbrev pub decreases-loop-i : goal.decreases-loop-i
decreases-loop-i g l = (length l.a - l.i) + (length l.b - l.j)
