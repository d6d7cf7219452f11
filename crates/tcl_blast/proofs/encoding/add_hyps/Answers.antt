-- One more hypothesis.
use Rattle.std.proofs.Common.{rules, ◌∙◌, ap, sym, subst}
use Rattle.tcl_blast.specs.declared.blasted.Blasted.{Blasted}
use Rattle.tcl_blast.specs.Clauses.{with_hyp, used_of, hyp_atoms}
use Rattle.tcl_blast.specs.Ready.{CanState}
use Rattle.tcl_blast.proofs.Counts.{hyp_many}
use Rattle.tcl_blast.proofs.Loops.{fold_next}
use Rattle.tcl_blast.proofs.Readiness.{hyp_ready}
use Rattle.tcl_blast.proofs.encoding.add_hyps.Goals as goal

pub next_hyp-requires : goal.next_hyp-requires
next_hyp-requires g c =
    let handler = g.L.LineCircuits.handler c.args.circuits.now c.args.ssa.now in
    let appends = g.met.L.LineCircuits.appends c.args.circuits.now c.args.ssa.now in
    subst (λ (s : Blasted). CanState c.args.ssa.now s (hyp_atoms c.args.ssa.now.lines c.at.result.now)) (sym c.loop-k.invariant)
    (hyp_ready c.args.ssa.now handler c.args.lemmas.now.items c.args.fact.now c.loop-k.k c.at.result.now appends c.lines-form.ensures.well_formed c.requires.order c.at.ensures)

pub returns-in_err-next_hyp-clause-many : goal.returns-in_err-next_hyp-clause-many
returns-in_err-next_hyp-clause-many g c =
    let handler = g.L.LineCircuits.handler c.args.circuits.now c.args.ssa.now in
    let appends = g.met.L.LineCircuits.appends c.args.circuits.now c.args.ssa.now in
    let used = used_of c.args.ssa.now c.args.lemmas.now.items c.args.fact.now in
    let many =
    hyp_many c.args.ssa.now handler c.args.lemmas.now.items used c.loop-k.blasted c.args.fact.now.hyps c.loop-k.k c.at.result.now c.in_err-next_hyp.field-0.0 appends c.at.ensures c.loop-k.invariant
    c.in_err-next_hyp.ensures.many in
    search (rules, many)

pub loop-k-preserved : goal.loop-k-preserved
loop-k-preserved g c =
    let f = with_hyp c.args.ssa.now (g.L.LineCircuits.handler c.args.circuits.now c.args.ssa.now) c.args.lemmas.now.items in
    c.in_ok-next_hyp.ensures.made ∙ ap (λ s. f s c.at.result.now) c.loop-k.invariant
    ∙ sym (fold_next f (used_of c.args.ssa.now c.args.lemmas.now.items c.args.fact.now) c.args.fact.now.hyps c.loop-k.k c.at.result.now c.at.ensures)
