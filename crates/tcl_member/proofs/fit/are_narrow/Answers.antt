-- A norm that is too great.
use Rattle.std.proofs.Common.{◌-◌, arith}
use Rattle.tcl_member.proofs.Booleans.{never}
use Rattle.tcl_member.proofs.Fits.{not_narrow}
use Rattle.tcl_member.proofs.fit.are_narrow.Goals as goal

pub returns-then-is_wide : goal.returns-then-is_wide
returns-then-is_wide g c =
    let m = g.R.Ring.modulus_of c.args.ring.now in let value = g.R.Ring.amount c.args.ring.now in (
      λ h. absurd (never h),
      λ h. absurd (not_narrow m value c.args.equations.now (c.loop-k.k - 1) c.norm_of_terms.result c.index-equations-k.result c.terms.result.now c.is_wide.result c.index-equations-k.is (omega (arith, c.loop-k-test.true, c.loop-k.invariant.0)) c.terms.ensures c.norm_of_terms.ensures c.is_wide.ensures c.if-is_wide.true h),
    )
