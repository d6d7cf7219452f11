use Rattle.std.proofs.Common.{ap, ◌∙◌, slice_get}
use Rattle.tcl_board.specs.Index.{flat}
use Rattle.tcl_board.proofs.Indexing.{held_listed_in}
use Rattle.tcl_board.proofs.board.Board.held_number.Goals as goal

pub returns : goal.returns
returns g c =
    c.listed.ensures ∙ (ap (λ l. flat (slice_get l c.args.worker)) c.as_slice.ensures ∙ held_listed_in _ _ _ c.args.worker _ _ _ c.self.view_is c.self.invariant.0 c.self.invariant.5)
