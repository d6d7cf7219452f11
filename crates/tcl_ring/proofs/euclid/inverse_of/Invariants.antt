-- Each remainder is its cofactor times a, and the pair keeps the greatest common divisor.
use Rattle.std.proofs.Common.{◌≡◌, ℕ, ◌<◌, ◌≤◌, ◌*◌, ◌%◌}
use Rattle.std.specs.Int.{IsGcd}
use Rattle.tcl_ring.proofs.euclid.inverse_of.Given as goal

abbrev pub invariant-loop-next : goal.invariant-loop-next
invariant-loop-next l =
    (l.next < l.m)
    × (l.divisor ≤ l.m)
    × (l.cofactor < l.m)
    × (l.next_cofactor < l.m)
    × ((l.cofactor * l.a) % l.m ≡ l.divisor % l.m)
    × ((l.next_cofactor * l.a) % l.m ≡ l.next % l.m)
    × ((g : ℕ) → IsGcd l.divisor l.next g → IsGcd l.m l.a g)

abbrev pub decreases-loop-next : goal.decreases-loop-next
decreases-loop-next l = l.next
