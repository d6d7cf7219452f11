use Rattle.std.proofs.Common.{sym, ap, ◌∙◌}
use Rattle.std.specs.List.{list_all}
use Rattle.tcl_board.specs.Shows.{cites}
use Rattle.tests_board.proofs.Cited.{all_cited}
use Rattle.tests_board.proofs.witness.Witness.of.Goals as goal

pub invariant_of-result : goal.invariant_of-result
invariant_of-result c =
    all_cited c.args.proof.cited c.args.proof.shown (
    sym (
    ap (λ x. list_all (λ m. cites x m.number) c.as_slice.result.now) c.shown.ensures.shown
    ∙ ap (list_all (λ m. cites c.args.proof.shown m.number)) (c.as_slice.ensures ∙ c.cited.ensures)
    )
    ∙ (sym c.are_cited.ensures ∙ c.if-not-are_cited.false)
    )
