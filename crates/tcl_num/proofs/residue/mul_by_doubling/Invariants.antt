-- The product so far is that of the digits that were read.
use Rattle.std.proofs.Common.{◌≡◌, ◌<◌, ◌≤◌, ◌*◌, ◌%◌, ◌/◌, ◌^◌}
use Rattle.tcl_num.proofs.residue.mul_by_doubling.Given as goal

abbrev pub invariant-loop-digits : goal.invariant-loop-digits
invariant-loop-digits l = (l.digits ≤ 126) × (l.product < l.m) × (l.product ≡ (l.a * (l.b / 2 ^ l.digits)) % l.m)

abbrev pub decreases-loop-digits : goal.decreases-loop-digits
decreases-loop-digits l = l.digits
