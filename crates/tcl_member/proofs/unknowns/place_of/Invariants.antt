-- The unknowns before place i come before the one that is looked for.
use Rattle.std.proofs.Common.{ℕ, ◌-◌, ◌<◌, ◌≤◌, length, get_or}
use Rattle.tcl_poly.specs.Unknown.{key_of}
use Rattle.tcl_member.specs.Course.{keys_in}
use Rattle.tcl_member.proofs.unknowns.place_of.Given as goal

abbrev pub invariant-loop-i : goal.invariant-loop-i
invariant-loop-i l =
    (l.i ≤ length l.unknowns) × ((k : ℕ) → k < l.i → get_or (keys_in l.unknowns) k 0 < key_of l.unknown)

abbrev pub decreases-loop-i : goal.decreases-loop-i
decreases-loop-i l = length l.unknowns - l.i
