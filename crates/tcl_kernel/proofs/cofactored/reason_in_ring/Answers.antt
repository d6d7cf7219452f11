-- A wide modulus is a reason.
use Rattle.std.proofs.Common.{◌∙◌, sym}
use Rattle.tcl_kernel.proofs.Cofactors.{wide_reason}
use Rattle.tcl_kernel.proofs.cofactored.reason_in_ring.Goals as goal

pub returns-then-has_wide_modulus : goal.returns-then-has_wide_modulus
returns-then-has_wide_modulus c =
    wide_reason c.args.ssa.now c.args.lemmas.now.items c.args.fact.now c.args.lines.now c.args.claim.now c.requires.claim (sym c.has_wide_modulus.ensures ∙ c.if-has_wide_modulus.true)
