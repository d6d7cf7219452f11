-- The terms so far, none of them too great, followed by the sum of what is left, are the whole sum.
use Rattle.std.proofs.Common.{length, ◌-◌, ◌+◌, ◌≡◌, ◌≤◌, drop, false}
use Rattle.tcl_ring.specs.Reduction.{reduced_by}
use Rattle.tcl_poly.specs.Polynomial as p
use Rattle.tcl_poly.proofs.Cancelling.{joined, left_of}
use Rattle.tcl_poly.proofs.multiple.merge_multiple.Given as goal

abbrev pub invariant-loop-i : goal.invariant-loop-i
invariant-loop-i g l =
    let m = g.R.Ring.modulus_of l.ring in
    let value = g.R.Ring.amount l.ring in
    (l.i ≤ length l.a) × (l.j ≤ length l.b)
    × (joined (reduced_by m) value (value l.c) l.sum.items (drop l.i l.a) (drop l.j l.b) ≡ left_of (reduced_by m) value (value l.c) l.a l.b)
    × (p.has_wide m (p.terms_of value l.sum.items) ≡ false)

abbrev pub decreases-loop-i : goal.decreases-loop-i
decreases-loop-i g l = (length l.a - l.i) + (length l.b - l.j)
