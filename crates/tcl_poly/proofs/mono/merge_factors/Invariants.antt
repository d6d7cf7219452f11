-- The factors so far, followed by the product of those that are left, are the whole product.
use Rattle.std.proofs.Common.{length, ◌-◌, ◌+◌, ◌≡◌, ◌≤◌, drop}
use Rattle.tcl_poly.specs.Monomial as m
use Rattle.tcl_poly.specs.Unknown.{factors_of}
use Rattle.tcl_poly.proofs.FactorMerging.{merged}
use Rattle.tcl_poly.proofs.mono.merge_factors.Given as goal

abbrev pub invariant-loop-i : goal.invariant-loop-i
invariant-loop-i l =
    (l.i ≤ length l.a) × (l.j ≤ length l.b) × (merged l.product.items (drop l.i l.a) (drop l.j l.b) ≡ m.times (factors_of l.a) (factors_of l.b))

abbrev pub decreases-loop-i : goal.decreases-loop-i
decreases-loop-i l = (length l.a - l.i) + (length l.b - l.j)
