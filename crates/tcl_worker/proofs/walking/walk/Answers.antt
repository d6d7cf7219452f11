-- What is left is not walked.
use Rattle.std.proofs.Common.{◌≡◌, ◌∙◌, ap, sym, subst, List}
use Rattle.tcl_goals.specs.declared.lemma.Numbered.{Numbered}
use Rattle.tcl_goals.specs.Order.{InOrder}
use Rattle.tcl_enum.specs.Enumeration.{ended_of}
use Rattle.tcl_enum.specs.declared.ended.Ended.TheVariants as ended
use Rattle.tcl_kernel.specs.Earlier.{Earlier}
use Rattle.tcl_worker.proofs.Gifts.{proves_by_none}
use Rattle.tcl_worker.proofs.Making.{walked_none}
use Rattle.tcl_worker.proofs.Walks.{end_wide, end_all, ended_all, few_walked, told_few, told_unwalked, wide_unwalked}
use Rattle.tcl_worker.proofs.walking.walk.Goals as goal

pub searched-requires-clause-unwalked : goal.searched-requires-clause-unwalked
searched-requires-clause-unwalked g c =
    told_unwalked c.args.ssa.now c.args.budget c.args.fact.now c.lemmas.result.now.items c.in_ok-bits.bits c.len.result c.are_few.result
    (c.lemmas.ensures ∙ ap (λ (e : Earlier). e.lemmas) c.requires.earlier) c.in_ok-bits.ensures c.len.ensures c.are_few.ensures c.if-not-are_few.true

pub enumerate-ended-requires-clause-order : goal.enumerate-ended-requires-clause-order
enumerate-ended-requires-clause-order g c =
    let none = c.lemmas-2.ensures ∙ ap (λ (e : Earlier). e.lemmas) c.requires.earlier in
    subst (λ (ls : List Numbered). InOrder c.args.ssa.now ls c.args.fact.now) (sym none) c.requires.order

pub searched-requires-in-Wide-clause-unwalked : goal.searched-requires-in-Wide-clause-unwalked
searched-requires-in-Wide-clause-unwalked g c =
    let p = c.args.ssa.now in
    let none = c.lemmas-2.ensures ∙ ap (λ (e : Earlier). e.lemmas) c.requires.earlier in
    let wide : ended_of p c.lemmas-2.result.now.items c.args.fact.now ≡ ended.Wide = end_wide _ _ c.enumerate-ended.ensures c.in-Wide.is in
    wide_unwalked p c.args.budget c.args.fact.now (sym (ap (λ ls. ended_of p ls c.args.fact.now) none) ∙ wide)

pub returns-in-All-clause-worked : goal.returns-in-All-clause-worked
returns-in-All-clause-worked g c =
    proves_by_none c.args.ssa.now c.args.lemmas.now.items c.args.fact.now c.in_ok-proof-in-All.proof c.in_ok-proof-in-All.ensures

pub returns-in-All-clause-rules : goal.returns-in-All-clause-rules
returns-in-All-clause-rules g c =
    let p = c.args.ssa.now in
    let fact = c.args.fact.now in
    let first = c.lemmas.ensures ∙ ap (λ (e : Earlier). e.lemmas) c.requires.earlier in
    let none = c.lemmas-2.ensures ∙ ap (λ (e : Earlier). e.lemmas) c.requires.earlier in
    let few = told_few p c.args.budget fact c.lemmas.result.now.items c.in_ok-bits.bits c.len.result c.are_few.result first c.in_ok-bits.ensures c.len.ensures c.are_few.ensures c.if-not-are_few.false in
    let all : ended_of p c.lemmas-2.result.now.items fact ≡ ended.All = end_all _ _ c.enumerate-ended.ensures c.in-All.is in
    walked_none p c.args.budget c.args.lemmas.now fact
    (few_walked p c.args.budget fact few (ended_all p fact (sym (ap (λ ls. ended_of p ls fact) none) ∙ all)))

pub returns-in-Fails-clause-rules : goal.returns-in-Fails-clause-rules
returns-in-Fails-clause-rules g c =
    walked_none c.args.ssa.now c.args.budget c.args.lemmas.now c.args.fact.now c.in_ok-input-in-Fails.ensures.walked
