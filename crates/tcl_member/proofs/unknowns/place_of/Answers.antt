-- Each turn passes an unknown that comes before.
use Rattle.std.proofs.Common.{arith}
use Rattle.tcl_poly.specs.declared.factor.Unknown.TheVariants.{Var}
use Rattle.tcl_poly.specs.Unknown.{key_of}
use Rattle.tcl_member.proofs.KeyLists.{passed_next}
use Rattle.tcl_member.proofs.unknowns.place_of.Goals as goal

pub loop-i-preserved : goal.loop-i-preserved
loop-i-preserved c = (
  omega (arith, c.loop-i-test.true),
  passed_next c.args.unknowns.now c.loop-i.i (Var 0) (key_of c.args.unknown) c.loop-i-test.true (omega (arith, c.if-key.false, c.key.ensures, c.key-in-loop-i.ensures)) c.loop-i.invariant.1,
)
