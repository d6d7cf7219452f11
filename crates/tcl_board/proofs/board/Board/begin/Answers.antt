use Rattle.std.proofs.Common.{◌∙◌}
use Rattle.tcl_board.proofs.PlanPieces.{small_plan}
use Rattle.tcl_board.proofs.board.Board.begin.Goals as goal

pub opened-requires : goal.opened-requires
opened-requires g c =
    small_plan c.pieces_are_in_order.ensures.planned _ _ _ _ _ c.requires.plan (c.as_slice.ensures ∙ c.lines.ensures.lines) c.len.ensures c.is_small.ensures c.if-not-is_small.false
