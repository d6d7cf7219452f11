-- One more used instruction.
use Rattle.std.proofs.Common.{rules, ◌∙◌, ap, sym, subst}
use Rattle.tcl_blast.specs.declared.blasted.Blasted.{Blasted}
use Rattle.tcl_blast.specs.Begin.{begun}
use Rattle.tcl_blast.specs.Blasted.{blank}
use Rattle.tcl_blast.specs.Clauses.{with_use}
use Rattle.tcl_blast.specs.Ready.{CanUse}
use Rattle.tcl_blast.proofs.Counts.{use_many}
use Rattle.tcl_blast.proofs.Loops.{fold_next}
use Rattle.tcl_blast.proofs.Readiness.{use_ready}
use Rattle.tcl_blast.proofs.encoding.add_uses.Goals as goal

pub next_use-requires : goal.next_use-requires
next_use-requires c =
    subst (λ (s : Blasted). CanUse c.args.ssa.now s c.at.result.now) (sym c.loop-k.invariant)
    (use_ready c.args.ssa.now c.args.lemmas.now.items c.args.fact.now c.loop-k.k c.at.result.now c.lines-form.ensures.well_formed c.requires.order c.at.ensures)

pub returns-in_err-next_use-clause-many : goal.returns-in_err-next_use-clause-many
returns-in_err-next_use-clause-many c =
    let first = blank (begun c.args.ssa.now c.args.lemmas.now.items c.args.fact.now) in
    let many =
    use_many c.args.ssa.now first c.loop-k.blasted c.args.fact.now.uses c.loop-k.k c.at.result.now c.in_err-next_use.field-0.0 c.at.ensures c.loop-k.invariant
    c.in_err-next_use.ensures.many in
    search (rules, many)

pub loop-k-preserved : goal.loop-k-preserved
loop-k-preserved c =
    c.in_ok-next_use.ensures.made ∙ ap (λ s. with_use c.args.ssa.now s c.at.result.now) c.loop-k.invariant
    ∙ sym (fold_next (with_use c.args.ssa.now) (blank (begun c.args.ssa.now c.args.lemmas.now.items c.args.fact.now)) c.args.fact.now.uses c.loop-k.k c.at.result.now c.at.ensures)
