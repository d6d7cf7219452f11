-- The pieces of a new board are those of its plan.
use Rattle.std.proofs.Common.{List, sym, ◌∙◌, ap, subst}
use Rattle.std.specs.List.{slice_get}
use Rattle.tcl_goals.specs.declared.piece.Piece.{Piece}
use Rattle.tcl_goals.specs.LemmaList.{LemmaList}
use Rattle.tcl_goals.specs.Plans.{IsPiece}
use Rattle.tcl_board.specs.Own.{AreGiven}
use Rattle.tcl_board.specs.State.{BoardState}
use Rattle.tcl_board.specs.Told.{goal_in}
use Rattle.tests_worker.proofs.giving.given.Goals as goal

pub work-requires-clause-piece : goal.work-requires-clause-piece
work-requires-clause-piece c =
    let pieces = ap (λ (s : BoardState). s.position.pieces) c.in_ok-board.ensures ∙ c.in_ok-copy-2.ensures.copy in
    let program = ap (λ (s : BoardState). s.program) c.in_ok-board.ensures ∙ c.in_ok-copy.ensures.copy in
    subst (λ p. IsPiece p c.at-piece.result.now) program
    (c.known.ensures.plan.each c.args.number c.at-piece.result.now
    (ap (λ (list : List Piece). slice_get list c.args.number) pieces ∙ c.at-piece.ensures))

pub work-requires-clause-lemmas : goal.work-requires-clause-lemmas
work-requires-clause-lemmas c =
    let pieces = ap (λ (s : BoardState). s.position.pieces) c.in_ok-board.ensures ∙ c.in_ok-copy-2.ensures.copy in
    let program = ap (λ (s : BoardState). s.program) c.in_ok-board.ensures ∙ c.in_ok-copy.ensures.copy in
    let at = ap (λ (list : List Piece). slice_get list c.args.number) pieces ∙ c.at-piece.ensures in
    let items = c.in_ok-lemmas.lemmas.items in
    let of_board = c.in_ok-lemmas.ensures.given in
    let of_program = subst (λ p. AreGiven p (goal_in (slice_get c.in_ok-board.board.position.pieces c.args.number)) items) program of_board in
    let of_piece = subst (λ o. AreGiven c.args.ssa.now (goal_in o) items) at of_program in
    subst (λ (list : LemmaList). AreGiven c.args.ssa.now c.at-piece.result.now.goal list.items) (sym c.set_more.ensures) of_piece
