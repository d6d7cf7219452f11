-- Each fact stands under the lemmas and one more; after want of memory all is as it was.
use Rattle.std.proofs.Common.{◌≡◌, ◌∙◌, length, take, sym, ap, subst, All, List, [], ◌∷◌}
use Rattle.std.proofs.Math.Seq.{take-append_seam}
use Rattle.tcl_goals.specs.declared.lemma.Numbered.{Numbered}
use Rattle.tcl_kernel.specs.declared.facts.NumberedFact.{NumberedFact}
use Rattle.tcl_kernel.specs.Earlier.{Earlier}
use Rattle.tcl_kernel.specs.Shown.{Stands}
use Rattle.tcl_kernel.proofs.CitedLists.{added_all}
use Rattle.tcl_kernel.proofs.facts.Facts.add_fact.Goals as goal

pub invariant_of-self-in-Ok : goal.invariant_of-self-in-Ok
invariant_of-self-in-Ok c =
    let old = c.self.inside in
    let fact : NumberedFact = record { number = c.args.number; fact = c.args.fact } in
    let lemma : Numbered = record { number = c.args.number; lemma = c.in-Some.lemma } in
    let stands : Stands old.program.value old.lemmas.items c.args.fact = subst (λ (e : Earlier). Stands e.program e.lemmas c.args.fact) (sym c.self.view_is) c.requires.stands in
    added_all old.program.value old.lemmas.items c.push-in-Some.new.self.items (lemma ∷ []) old.facts c.push.new.self fact
    c.in_ok-push.ensures.pushed (ap (λ l. l.items) c.in-Ok.ensures.pushed) stands c.self.invariant

pub invariant_of-self-in-Err : goal.invariant_of-self-in-Err
invariant_of-self-in-Err c =
    let old = c.self.inside in
    let fact : NumberedFact = record { number = c.args.number; fact = c.args.fact } in
    let same : c.truncate.new.self ≡ old.facts =
    c.truncate.ensures ∙ ap (λ n. take n c.push.new.self) c.len-count.ensures
    ∙ ap (λ list. take (length old.facts) list) c.in_ok-push.ensures.pushed ∙ take-append_seam old.facts (fact ∷ []) in
    subst (λ (list : List NumberedFact). All (λ f. Stands old.program.value c.push-in-Some.new.self.items f.fact) list) (sym same)
    (subst (λ (list : List Numbered). All (λ f. Stands old.program.value list f.fact) old.facts) (sym (ap (λ l. l.items) c.in-Err.ensures.unchanged)) c.self.invariant)
