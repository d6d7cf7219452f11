-- The fact that cites the lemmas has the same claim, and its end is one of the fact.
use Rattle.tcl_worker.proofs.Gifts.{citing_end}
use Rattle.tcl_worker.proofs.lemma_search.by_lemmas.Goals as goal

pub returns-clause-end : goal.returns-clause-end
returns-clause-end g c =
    citing_end c.args.ssa.now c.args.lemmas.now.items c.args.fact.now c.in_ok-cited.cited c.in_ok-end.end c.in_ok-cited.ensures
    (c.is_in_order.ensures c.if-not-is_in_order.false) c.in_ok-end.ensures.end
