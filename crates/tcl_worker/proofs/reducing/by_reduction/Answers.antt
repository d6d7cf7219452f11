-- A zero checks, and all else leaves something.
use Rattle.std.proofs.Common.{◌∙◌, List, ap, subst, [], Some}
use Rattle.tcl_goals.specs.declared.lemma.Numbered.{Numbered}
use Rattle.tcl_plain.specs.Plain.{IsProof}
use Rattle.tcl_plain.specs.declared.outcome.Outcome.{Outcome}
use Rattle.tcl_kernel.specs.Earlier.{Earlier}
use Rattle.tcl_worker.proofs.Reductions.{algebraic_equation, outcome_told, zero_checks}
use Rattle.tcl_worker.proofs.Ends.{rest_ended, width_ended, large_ended}
use Rattle.tcl_worker.proofs.reducing.by_reduction.Goals as goal

pub reduce-requires-clause-claim : goal.reduce-requires-clause-claim
reduce-requires-clause-claim c = algebraic_equation c.args.ssa.now c.args.fact.now c.requires.algebraic

pub reduce-requires-clause-uses : goal.reduce-requires-clause-uses
reduce-requires-clause-uses c = c.requires.order.uses

pub proved_by_cofactors-requires-clause-checks : goal.proved_by_cofactors-requires-clause-checks
proved_by_cofactors-requires-clause-checks c =
    let p = c.args.ssa.now in
    let fact = c.args.fact.now in
    let none = c.lemmas.ensures ∙ ap (λ (e : Earlier). e.lemmas) c.requires.earlier in
    zero_checks p fact c.in-Zero.lines (algebraic_equation p fact c.requires.algebraic)
    (λ f is. subst (λ (o : Outcome). IsProof p [] fact f o) c.in-Zero.is
    (subst (λ (ls : List Numbered). IsProof p ls fact f c.in_ok-lines.field-0) none (c.in_ok-lines.ensures.proof f is)))

pub returns-in-Rest-clause-worked : goal.returns-in-Rest-clause-worked
returns-in-Rest-clause-worked c =
    let p = c.args.ssa.now in
    let fact = c.args.fact.now in
    rest_ended p c.args._budget fact c.in-Rest.field-0 c.requires.unbounded c.requires.unwalked c.requires.algebraic
    (outcome_told p fact c.in_ok-lines.field-0 (algebraic_equation p fact c.requires.algebraic) c.in_ok-lines.ensures.outcome ∙ ap Some c.in-Rest.is)

pub returns-in-Wide-clause-worked : goal.returns-in-Wide-clause-worked
returns-in-Wide-clause-worked c =
    let p = c.args.ssa.now in
    let fact = c.args.fact.now in
    width_ended p c.args._budget fact c.in-Wide.at c.requires.unbounded c.requires.unwalked c.requires.algebraic
    (outcome_told p fact c.in_ok-lines.field-0 (algebraic_equation p fact c.requires.algebraic) c.in_ok-lines.ensures.outcome ∙ ap Some c.in-Wide.is)

pub returns-clause-worked : goal.returns-clause-worked
returns-clause-worked c =
    let p = c.args.ssa.now in
    let fact = c.args.fact.now in
    large_ended p c.args._budget fact c.in-Large.what c.in-Large.count c.requires.unbounded c.requires.unwalked c.requires.algebraic
    (outcome_told p fact c.in_ok-lines.field-0 (algebraic_equation p fact c.requires.algebraic) c.in_ok-lines.ensures.outcome ∙ ap Some c.in-Large.is)
