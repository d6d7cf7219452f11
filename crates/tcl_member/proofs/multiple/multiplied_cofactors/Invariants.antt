-- The products so far and those of what is left are the products of all.
use Rattle.std.proofs.Common.{◌≡◌, ◌++◌, drop, pos}
use Rattle.tcl_ring.specs.Reduction.{reduced_by}
use Rattle.tcl_poly.specs.Monomial.{Monomial}
use Rattle.tcl_reduce.specs.CofactorSum.{scaled_cofactors}
use Rattle.tcl_pivots.proofs.CofactorTurns.{valued}
use Rattle.tcl_member.specs.Multiplied.{IsFactor}
use Rattle.tcl_member.proofs.multiple.multiplied_cofactors.Given as goal

abbrev pub invariant-loop-cofactor : goal.invariant-loop-cofactor
invariant-loop-cofactor g l =
    let r = reduced_by (g.R.Ring.modulus_of l.ring) in let value = g.R.Ring.amount l.ring in
    (n : Monomial) → IsFactor r value n l.factor →
    valued value l.products.items ++ scaled_cofactors r (n, r (pos 1)) (valued value (drop l.cofactor-index l.cofactors)) ≡ scaled_cofactors r (n, r (pos 1)) (valued value l.cofactors)
