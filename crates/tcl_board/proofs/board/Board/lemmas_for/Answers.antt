use Rattle.std.proofs.Common.{refl, ap, ◌∙◌}
use Rattle.tcl_board.proofs.Knowing.{given_for}
use Rattle.tcl_board.proofs.board.Board.lemmas_for.Goals as goal

pub returns-clause-given : goal.returns-clause-given
returns-clause-given g c =
    given_for _ _ _ c.args.piece c.at.result.now c.in_ok-lemmas.lemmas.items c.self.view_is c.self.invariant.0 c.at.ensures
    (ap (λ l. l.items) c.in_ok-lemmas.ensures ∙ rw (c.as_slice.ensures, c.as_slice-2.ensures) refl)
