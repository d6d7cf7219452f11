-- Cofactors without a reason against them show the fact.
use Rattle.std.proofs.Common.{◌∙◌, sym}
use Rattle.tcl_kernel.proofs.Cofactors.{cofactors_exact, cofactors_sound}
use Rattle.tcl_kernel.proofs.cofactored.cofactor_reason.Goals as goal

pub returns-clause-holds : goal.returns-clause-holds
returns-clause-holds c = λ none.
    cofactors_sound c.args.ssa.now c.args.lemmas.now.items c.args.fact.now c.args.lines.now c.lines-form.ensures.well_formed
    ((cofactors_exact c.args.ssa.now c.args.lemmas.now.items c.args.fact.now c.args.lines.now).0 (sym c.in_ok-reason.ensures ∙ none))
