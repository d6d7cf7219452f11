-- What the search without lemmas ends with is said by any lemmas.
use Rattle.tcl_worker.proofs.Gifts.{worked_by_none}
use Rattle.tcl_worker.proofs.searching.by_searches.Goals as goal

pub returns-in_ok-worked-in-Vain-clause-worked : goal.returns-in_ok-worked-in-Vain-clause-worked
returns-in_ok-worked-in-Vain-clause-worked g c =
    worked_by_none c.args.ssa.now c.args.budget c.args.lemmas.now.items c.args.fact.now c.in_ok-worked-in-Vain.worked c.in_ok-worked-in-Vain.ensures.worked
