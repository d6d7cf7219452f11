-- A lemma is made, or all candidates are passed over.
use Rattle.std.proofs.Common.{subst}
use Rattle.tcl_worker.specs.SearchEnds.{IsMakingEnd}
use Rattle.tcl_worker.proofs.Making.{keeps_none}
use Rattle.tcl_worker.proofs.searching.by_clauses.Goals as goal

pub returns-in_ok-worked-in-Vain-clause-rules : goal.returns-in_ok-worked-in-Vain-clause-rules
returns-in_ok-worked-in-Vain-clause-rules g c =
    keeps_none c.args.ssa.now c.args.budget c.args.lemmas.now c.args.fact.now c.in_ok-worked-in-Vain.worked
    (subst (IsMakingEnd c.args.ssa.now c.args.budget c.args.lemmas.now c.args.fact.now) c.in-Vain.is c.in_ok-proof.ensures.end)
    c.in_ok-worked-in-Vain.ensures.own
