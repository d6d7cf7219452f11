use Rattle.std.proofs.Common.{◌≤◌, min, length, sym, ◌∙◌, arith}
use Rattle.tcl_types.proofs.Ends.{define_all-ended}
use Rattle.tcl_types.proofs.table.Types.define_all.Goals as goal

pub returns : goal.returns
returns c =
    let over : min (length c.args.names.now) (length c.args.tys.now) ≤ c.loop-k.k = omega (arith, c.min-k-end.ensures) in
    sym (define_all-ended c.loop-k.self c.args.names.now c.args.tys.now c.loop-k.k over) ∙ c.loop-k.invariant
