-- The ends of the search.
use Rattle.std.proofs.Common.{subst, List, ℕ}
use Rattle.tcl_cnf.specs.Clause.{Satisfies}
use Rattle.tcl_cnf.specs.Literal.{value_at}
use Rattle.tcl_cnf.specs.FreshLogs.{DeriveFresh}
use Rattle.tcl_worker.specs.SearchEnds.{IsSearchEnd}
use Rattle.tcl_worker.proofs.Checks.{proves_begun}
use Rattle.tcl_worker.proofs.Ends.{spent_ended, model_left}
use Rattle.tcl_worker.proofs.searching.worked_by_search.Goals as goal

pub returns-in_ok-proof-in-Refutes-clause-worked : goal.returns-in_ok-proof-in-Refutes-clause-worked
returns-in_ok-proof-in-Refutes-clause-worked g c =
    proves_begun c.args.ssa.now c.args.earlier.now c.args.fact.now c.in_ok-proof-in-Refutes.proof c.requires.earlier c.requires.order c.in_ok-proof-in-Refutes.ensures

pub returns-in-Model-clause-worked : goal.returns-in-Model-clause-worked
returns-in-Model-clause-worked g c =
    model_left c.args.ssa.now c.args.budget c.args.fact.now c.in-Model.bits c.requires.searched.unbounded c.requires.searched.unwalked c.requires.searched.range
    (subst (Satisfies (value_at c.in-Model.bits)) c.requires.clauses (subst (IsSearchEnd c.args.cnf.now c.args.budget) c.in-Model.is c.in_ok-lines.ensures.end))

pub returns-in-Spent-clause-worked : goal.returns-in-Spent-clause-worked
returns-in-Spent-clause-worked g c =
    let spent = subst (IsSearchEnd c.args.cnf.now c.args.budget) c.in-Spent.is c.in_ok-lines.ensures.end in
    spent_ended c.args.ssa.now c.args.budget c.args.fact.now spent.lines c.requires.budget c.requires.searched.unbounded c.requires.searched.unwalked c.requires.searched.range
    (subst (λ (cs : List (List ℕ)). DeriveFresh cs c.args.budget spent.lines) c.requires.clauses spent.derives)
