-- The bound over the powers so far, and the power of the growth.
use Rattle.std.proofs.Common.{◌≡◌, ◌^◌, max, min}
use Rattle.tcl_poly.specs.Polynomial as p
use Rattle.tcl_reduce.specs.Parts.{by_power}
use Rattle.tcl_reduce.specs.Fits.{values_by}
use Rattle.tcl_reduce.specs.Substitution.{bound_of}
use Rattle.tcl_reduce.proofs.size.bound.Given as goal

abbrev pub invariant-loop-k : goal.invariant-loop-k
invariant-loop-k g l =
    let value = g.R.Ring.amount l.ring in
    let d = p.terms_of value l.d in
    (l.bound ≡ min (bound_of d (values_by value (by_power l.parts)) l.k) (2 ^ 127))
    × (l.power ≡ min (max 1 (p.norm_of d) ^ l.k) (2 ^ 127))
