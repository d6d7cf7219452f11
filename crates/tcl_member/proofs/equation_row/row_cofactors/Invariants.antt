-- The opposites so far and those of what is left are the opposites of all.
use Rattle.std.proofs.Common.{◌≡◌, ◌++◌, [], drop, negsuc}
use Rattle.tcl_ring.specs.Reduction.{reduced_by}
use Rattle.tcl_reduce.specs.CofactorSum.{scaled_cofactors}
use Rattle.tcl_pivots.proofs.CofactorTurns.{valued}
use Rattle.tcl_member.proofs.equation_row.row_cofactors.Given as goal

abbrev pub invariant-loop-cofactor : goal.invariant-loop-cofactor
invariant-loop-cofactor g l =
    let r = reduced_by (g.R.Ring.modulus_of l.ring) in let value = g.R.Ring.amount l.ring in
    valued value l.opposites.items ++ scaled_cofactors r ([], negsuc 0) (valued value (drop l.cofactor-index l.cofactors)) ≡ scaled_cofactors r ([], negsuc 0) (valued value l.cofactors)
