-- The cofactors of the sum have equations.
use Rattle.std.proofs.Common.{[], length}
use Rattle.tcl_ring.specs.Reduction as r
use Rattle.tcl_pivots.proofs.MadeCofactors.{made_below, below_same}
use Rattle.tcl_pivots.proofs.row_step.make.Goals as goal

pub are_wide-requires : goal.are_wide-requires
are_wide-requires g c =
    let m = g.R.Ring.modulus_of c.args.ring.now in let value = g.R.Ring.amount c.args.ring.now in
    let n = length c.args.equations.now in
    let other = below_same n _ _ c.as_slice.ensures c.requires.row_below in
    below_same n _ _ c.as_slice-2.ensures
    (made_below value n (r.reduced_by m) ([], value c.args.d.now) c.args.cofactors.now c.as_slice.result.now _ c.requires.below other c.in-Ok.ensures.sum)
