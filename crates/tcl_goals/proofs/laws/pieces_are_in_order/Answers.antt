-- Each law is a lemma.
use Rattle.tcl_goals.proofs.PlanPieces.{plans_have_pieces}
use Rattle.tcl_goals.proofs.PieceOrder.{piece_in_order}
use Rattle.tcl_goals.proofs.laws.pieces_are_in_order.Goals as goal

pub returns-clause-planned : goal.returns-clause-planned
returns-clause-planned c = plans_have_pieces

pub returns-clause-order : goal.returns-clause-order
returns-clause-order c = piece_in_order
