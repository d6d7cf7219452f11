-- The combination of the cofactors from k on.
use Rattle.std.proofs.Common.{◌≡◌, ◌≤◌, length, drop, map}
use Rattle.tcl_ring.specs.Reduction.{reduced_by}
use Rattle.tcl_poly.specs.Polynomial as p
use Rattle.tcl_poly.specs.Combination.{combination_of}
use Rattle.tcl_cofactor.proofs.combination.combine.Given as goal

abbrev pub invariant-loop-k : goal.invariant-loop-k
invariant-loop-k g l =
    (l.k ≤ length l.cofactors)
    × (p.terms_of (g.R.Ring.amount l.ring) l.sum ≡ combination_of (reduced_by (g.R.Ring.modulus_of l.ring)) (g.R.Ring.amount l.ring) l.equations (map (λ c. (c.equation, c.poly)) (drop l.k l.cofactors)))

abbrev pub decreases-loop-k : goal.decreases-loop-k
decreases-loop-k g l = l.k
