-- The unknowns from term k on are added.
use Rattle.std.proofs.Common.{◌≡◌, ◌≤◌, length, drop, ℤ}
use Rattle.tcl_poly.specs.Polynomial.{terms_of}
use Rattle.tcl_reduce.specs.Multiple.{unknowns_of}
use Rattle.tcl_member.specs.Course.{keys_in}
use Rattle.tcl_member.proofs.unknowns.add_unknowns.Given as goal

abbrev pub invariant-loop-k : goal.invariant-loop-k
invariant-loop-k g l =
    (l.k ≤ length l.list)
    × ((value : g.row.R-Elem.Denot → ℤ) → keys_in l.unknowns.items ≡ unknowns_of (terms_of value (drop l.k l.list)) (keys_in l.fn.unknowns.items))

abbrev pub decreases-loop-k : goal.decreases-loop-k
decreases-loop-k g l = l.k
