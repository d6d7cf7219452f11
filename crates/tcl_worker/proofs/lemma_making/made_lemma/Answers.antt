-- Each candidate is in order.
use Rattle.std.proofs.Common.{sym, ap, ◌∙◌, slice_get, List}
use Rattle.tcl_goals.specs.declared.fact.BitLit.{BitLit}
use Rattle.tcl_worker.proofs.CandidateFacts.{candidate_in_order}
use Rattle.tcl_worker.proofs.lemma_making.made_lemma.Goals as goal

pub tried-requires-clause-order : goal.tried-requires-clause-order
tried-requires-clause-order g c =
    candidate_in_order c.args.ssa.now c.args.fact.now c.loop-k.k c.at.result.now c.requires.formed c.requires.order
    (ap (λ (bs : List BitLit). slice_get bs c.loop-k.k) (sym c.in_ok-bits.ensures) ∙ c.at.ensures)
