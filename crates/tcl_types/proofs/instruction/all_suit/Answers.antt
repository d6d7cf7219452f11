use Rattle.std.proofs.Common.{◌≤◌, min, length, sym, ◌∙◌, arith}
use Rattle.tcl_types.proofs.Ends.{operands_suit-ended}
use Rattle.tcl_types.proofs.instruction.all_suit.Goals as goal

pub returns : goal.returns
returns c =
    let over : min (length c.args.wanted.now) (length c.args.args.now) ≤ c.loop-k.k = omega (arith, c.min-k-end.ensures) in
    sym (operands_suit-ended c.args.types.now c.args.wanted.now c.args.args.now c.loop-k.k over) ∙ c.loop-k.invariant
