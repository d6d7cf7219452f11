-- The fact of a piece is in order.
use Rattle.std.proofs.Common.{sym, subst, []}
use Rattle.tcl_goals.specs.Order.{InOrder}
use Rattle.tcl_goals.proofs.PieceOrder.{piece_in_order}
use Rattle.tcl_worker.proofs.Gifts.{piece_fact_is}
use Rattle.tcl_worker.proofs.facts.fact_of.Goals as goal

pub returns-clause-order : goal.returns-clause-order
returns-clause-order c =
    subst (InOrder c.args.ssa.now []) (sym (piece_fact_is c.args.ssa.now c.args.piece.now _ c.in_ok-copy.field-0 c.in_ok-claim.ensures c.in_ok-copy.ensures.copy))
    (piece_in_order c.args.ssa.now [] c.args.piece.now c.lines-form.ensures.well_formed c.requires)
