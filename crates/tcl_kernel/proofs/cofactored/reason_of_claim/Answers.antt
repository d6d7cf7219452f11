-- A claim that is no equation has no cofactors.
use Rattle.std.proofs.Common.{◌∙◌, sym, ap}
use Rattle.std.specs.Prelude.{option_copied}
use Rattle.tcl_kernel.proofs.Cofactors.{no_equation}
use Rattle.tcl_kernel.proofs.cofactored.reason_of_claim.Goals as goal

pub returns-in-None : goal.returns-in-None
returns-in-None c =
    no_equation c.args.ssa.now c.args.lemmas.now.items c.args.fact.now c.args.lines.now (sym c.claim_equation.ensures.equation ∙ ap option_copied c.in-None.is)
