-- The unknowns from factor k on are added.
use Rattle.std.proofs.Common.{◌≡◌, ◌≤◌, length, drop}
use Rattle.tcl_reduce.specs.Multiple.{keys_of}
use Rattle.tcl_member.specs.Course.{keys_in}
use Rattle.tcl_member.proofs.unknowns.add_factors.Given as goal

abbrev pub invariant-loop-k : goal.invariant-loop-k
invariant-loop-k l =
    (l.k ≤ length l.monomial) × (keys_in l.unknowns.items ≡ keys_of (drop l.k l.monomial) (keys_in l.fn.unknowns.items))

abbrev pub decreases-loop-k : goal.decreases-loop-k
decreases-loop-k l = l.k
