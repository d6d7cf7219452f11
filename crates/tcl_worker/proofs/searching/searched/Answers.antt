-- The clauses may be made; where they are too many, this is the cause. No lemma is made for an algebraic goal, or there.
use Rattle.std.proofs.Common.{◌∙◌, List, [], ap, sym, subst}
use Rattle.tcl_port.specs.declared.limit.What.TheVariants as what
use Rattle.tcl_goals.specs.declared.cause.Cause.TheVariants as cause
use Rattle.tcl_goals.specs.declared.lemma.Numbered.{Numbered}
use Rattle.tcl_goals.specs.Order.{InOrder}
use Rattle.tcl_blast.specs.Ends.{AreTooMany, IsBlastEnd}
use Rattle.tcl_kernel.specs.Earlier.{Earlier}
use Rattle.tcl_worker.specs.Worked.{IsEnded}
use Rattle.tcl_worker.proofs.Ends.{range_claim, many_ended}
use Rattle.tcl_worker.proofs.Gifts.{worked_by_none}
use Rattle.tcl_worker.proofs.Making.{algebraic_none, keeps_none, many_none}
use Rattle.tcl_worker.proofs.searching.searched.Goals as goal

pub returns-then-has_algebraic_claim-clause-worked : goal.returns-then-has_algebraic_claim-clause-worked
returns-then-has_algebraic_claim-clause-worked g c =
    worked_by_none c.args.ssa.now c.args.budget c.args.lemmas.now.items c.args.fact.now c.in_ok-worked.worked c.in_ok-worked.ensures.worked

pub returns-then-has_algebraic_claim-clause-rules : goal.returns-then-has_algebraic_claim-clause-rules
returns-then-has_algebraic_claim-clause-rules g c =
    keeps_none c.args.ssa.now c.args.budget c.args.lemmas.now c.args.fact.now c.in_ok-worked.worked
    (algebraic_none c.args.ssa.now c.args.budget c.args.lemmas.now c.args.fact.now (sym c.has_algebraic_claim.ensures ∙ c.if-has_algebraic_claim.true))
    c.in_ok-worked.ensures.own

pub clauses-requires-clause-order : goal.clauses-requires-clause-order
clauses-requires-clause-order g c =
    subst (λ (ls : List Numbered). InOrder c.args.ssa.now ls c.args.fact.now) (sym (c.lemmas.ensures ∙ ap (λ (e : Earlier). e.lemmas) c.requires.earlier)) c.requires.order

pub clauses-requires-clause-range : goal.clauses-requires-clause-range
clauses-requires-clause-range g c = range_claim c.args.ssa.now c.args.fact.now (sym c.has_algebraic_claim.ensures ∙ c.if-has_algebraic_claim.false)

pub returns-in-Err-TooMany-clause-worked : goal.returns-in-Err-TooMany-clause-worked
returns-in-Err-TooMany-clause-worked g c =
    let p = c.args.ssa.now in
    let fact = c.args.fact.now in
    let none = c.lemmas.ensures ∙ ap (λ (e : Earlier). e.lemmas) c.requires.earlier in
    let many : AreTooMany p [] fact c.in-Err-TooMany.count =
    subst (λ (ls : List Numbered). AreTooMany p ls fact c.in-Err-TooMany.count) none
    (subst (IsBlastEnd p c.lemmas.result.now.items fact) c.in-Err-TooMany.field-0-is c.in-Err-TooMany.ensures.end) in
    subst (λ n. IsEnded p c.args.budget fact (cause.Size what.Clauses n)) (sym c.in-Err-TooMany.count-is)
    (many_ended p c.args.budget fact c.in-Err-TooMany.count c.requires.unbounded c.requires.unwalked (sym c.has_algebraic_claim.ensures ∙ c.if-has_algebraic_claim.false) many)

pub returns-in-Err-TooMany-clause-rules : goal.returns-in-Err-TooMany-clause-rules
returns-in-Err-TooMany-clause-rules g c =
    let p = c.args.ssa.now in
    let fact = c.args.fact.now in
    let none = c.lemmas.ensures ∙ ap (λ (e : Earlier). e.lemmas) c.requires.earlier in
    let many : AreTooMany p [] fact c.in-Err-TooMany.count =
    subst (λ (ls : List Numbered). AreTooMany p ls fact c.in-Err-TooMany.count) none
    (subst (IsBlastEnd p c.lemmas.result.now.items fact) c.in-Err-TooMany.field-0-is c.in-Err-TooMany.ensures.end) in
    many_none p c.args.budget c.args.lemmas.now fact many.many
