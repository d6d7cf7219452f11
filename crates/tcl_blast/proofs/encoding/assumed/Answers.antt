-- Too many clauses of some parts are too many of all.
use Rattle.std.proofs.Common.{rules}
use Rattle.tcl_blast.proofs.Counts.{used_end, hyps_end}
use Rattle.tcl_blast.proofs.encoding.assumed.Goals as goal

pub returns-in_err-add_uses-clause-end : goal.returns-in_err-add_uses-clause-end
returns-in_err-add_uses-clause-end g c =
    let handler = g.L.LineCircuits.handler c.args.circuits.now c.args.ssa.now in
    let appends = g.met.L.LineCircuits.appends c.args.circuits.now c.args.ssa.now in
    let many = used_end c.args.ssa.now handler c.args.lemmas.now.items c.args.fact.now c.in_err-add_uses.field-0.0 appends c.in_err-add_uses.ensures.many in
    search (rules, many)

pub returns-in_err-add_hyps-clause-end : goal.returns-in_err-add_hyps-clause-end
returns-in_err-add_hyps-clause-end g c =
    let handler = g.L.LineCircuits.handler c.args.circuits.now c.args.ssa.now in
    let appends = g.met.L.LineCircuits.appends c.args.circuits.now c.args.ssa.now in
    search (rules, hyps_end c.args.ssa.now handler c.args.lemmas.now.items c.args.fact.now c.in_err-add_hyps.field-0.0 appends)
