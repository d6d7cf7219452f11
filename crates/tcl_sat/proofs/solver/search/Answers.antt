use Rattle.std.proofs.Common.{◌∙◌, ap, subst, List, ℕ}
use Rattle.tcl_trail.specs.Trail.{variable_count}
use Rattle.tcl_sat.specs.Found.{IsSpent}
use Rattle.tcl_sat.specs.State.{IsFull}
use Rattle.tcl_sat.proofs.Rounds.{spent_no_conflict, on_err}
use Rattle.tcl_sat.proofs.ValueLemmas.{model_of, model_no_conflict}
use Rattle.tcl_sat.proofs.solver.search.Goals as goal

pub returns-in_ok-bits-in-Satisfied-clause-found : goal.returns-in_ok-bits-in-Satisfied-clause-found
returns-in_ok-bits-in-Satisfied-clause-found g c =
    let cnf = c.args.cnf.now in
    let begun = c.in_ok-solver.ensures in
    let trail = c.run.new.self.trail in
    let full = rw c.in-Satisfied.is at c.in_ok-run.ensures.end in
    model_of cnf trail c.in_ok-bits-in-Satisfied.bits c.variables-variables.result c.known-in-Satisfied.ensures.trail (subst (λ (x : List (List ℕ)). IsFull x trail) begun.logged full)
    (c.variables-variables.ensures ∙ ap (λ (x : List (List ℕ)). variable_count x) begun.kept) c.in_ok-bits-in-Satisfied.ensures

pub returns-in_ok-bits-in-Satisfied-clause-decided : goal.returns-in_ok-bits-in-Satisfied-clause-decided
returns-in_ok-bits-in-Satisfied-clause-decided g c =
    let cnf = c.args.cnf.now in
    let begun = c.in_ok-solver.ensures in
    let trail = c.run.new.self.trail in
    let full = rw c.in-Satisfied.is at c.in_ok-run.ensures.end in
    model_no_conflict cnf c.in_ok-bits-in-Satisfied.bits
    (model_of cnf trail c.in_ok-bits-in-Satisfied.bits c.variables-variables.result c.known-in-Satisfied.ensures.trail (subst (λ (x : List (List ℕ)). IsFull x trail) begun.logged full)
    (c.variables-variables.ensures ∙ ap (λ (x : List (List ℕ)). variable_count x) begun.kept) c.in_ok-bits-in-Satisfied.ensures)

pub returns-in-Spent-clause-decided : goal.returns-in-Spent-clause-decided
returns-in-Spent-clause-decided g c =
    let log = c.run.new.self.log in
    let is = rw c.in-Spent.is at c.in_ok-run.ensures.end in
    spent_no_conflict c.args.cnf.now c.args.budget log (subst (λ (x : List (List ℕ)). IsSpent x c.args.budget log) c.in_ok-solver.ensures.logged is) c.requires.budget

pub returns-in_err-bits-in-Satisfied-clause-memory : goal.returns-in_err-bits-in-Satisfied-clause-memory
returns-in_err-bits-in-Satisfied-clause-memory g c = on_err c.from_residual-in_err-bits-in-Satisfied.result (rw c.in-Satisfied.is at c.in_ok-run.ensures.stopped)
