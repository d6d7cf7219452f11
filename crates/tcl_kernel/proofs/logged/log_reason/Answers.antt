-- A log that refutes the clauses shows the fact.
use Rattle.std.proofs.Common.{◌≡◌, ◌∙◌, sym, subst}
use Rattle.tcl_cnf.specs.declared.answer.LogAnswer.TheVariants.{Refutes}
use Rattle.tcl_cnf.specs.Clause.{HaveNoSolution}
use Rattle.tcl_kernel.proofs.Soundness.{refuting, refutation_shown}
use Rattle.tcl_kernel.proofs.logged.log_reason.Goals as goal

pub returns-in_ok-check_log-in-Ok-clause-holds : goal.returns-in_ok-check_log-in-Ok-clause-holds
returns-in_ok-check_log-in-Ok-clause-holds c = λ none.
    let refutes : c.in_ok-check_log-in-Ok.field-0 ≡ Refutes = refuting c.in_ok-check_log-in-Ok.field-0 (sym c.reason_of.ensures ∙ none) in
    refutation_shown c.args.ssa.now c.args.lemmas.now.items c.args.fact.now c.lines.ensures.well_formed c.requires
    (subst HaveNoSolution c.in-Ok.ensures.made.clauses_are (c.in_ok-check_log-in-Ok.ensures.sound refutes))
