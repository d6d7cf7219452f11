-- An equation that is zero, or none.
use Rattle.std.proofs.Common.{arith, refl}
use Rattle.tcl_member.proofs.Booleans.{never}
use Rattle.tcl_member.proofs.Fits.{not_some, all_some}
use Rattle.tcl_member.proofs.fit.are_nonzero.Goals as goal

pub returns-then-is_zero : goal.returns-then-is_zero
returns-then-is_zero g c value = (
  λ h. absurd (never h),
  λ h. absurd (not_some value c.args.equations.now c.loop-k.k c.args.definitions c.index-equations-k.result c.index-equations-k.is (omega (arith, c.loop-k-test.true, c.requires)) c.loop-k-test.true (c.if-is_zero.ensures.0 refl) h),
)

pub returns : goal.returns
returns g c value = (λ h. all_some value c.args.equations.now c.args.definitions c.loop-k.k c.loop-k.invariant c.loop-k-test.false, λ h. refl)
