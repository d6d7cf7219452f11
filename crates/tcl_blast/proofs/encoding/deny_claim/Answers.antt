-- The claim behind all other parts.
use Rattle.std.proofs.Common.{sym, subst, length}
use Rattle.tcl_words.specs.Ranges.{AllWithin}
use Rattle.tcl_words.specs.Stores.{HaveWidths}
use Rattle.tcl_blast.specs.declared.blasted.Blasted.{Blasted}
use Rattle.tcl_blast.specs.Clauses.{claim_atoms}
use Rattle.tcl_blast.proofs.Readiness.{claim_ready}
use Rattle.tcl_blast.proofs.encoding.deny_claim.Goals as goal

pub deny-requires-clause-within : goal.deny-requires-clause-within
deny-requires-clause-within g c =
    let handler = g.L.LineCircuits.handler c.args.circuits.now c.args.ssa.now in
    let appends = g.met.L.LineCircuits.appends c.args.circuits.now c.args.ssa.now in
    subst (λ (s : Blasted). AllWithin (length s.gates) s.words) (sym c.requires.assumed)
    (claim_ready c.args.ssa.now handler c.args.lemmas.now.items c.args.fact.now appends c.lines-form.ensures.well_formed c.requires.order).within

pub deny-requires-clause-widths : goal.deny-requires-clause-widths
deny-requires-clause-widths g c =
    let handler = g.L.LineCircuits.handler c.args.circuits.now c.args.ssa.now in
    let appends = g.met.L.LineCircuits.appends c.args.circuits.now c.args.ssa.now in
    subst (λ (s : Blasted). HaveWidths s.words c.args.ssa.now.variables (claim_atoms c.args.ssa.now.lines c.args.fact.now.claim)) (sym c.requires.assumed)
    (claim_ready c.args.ssa.now handler c.args.lemmas.now.items c.args.fact.now appends c.lines-form.ensures.well_formed c.requires.order).widths
