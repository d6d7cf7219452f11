-- At the end no power is left.
use Rattle.std.proofs.Common.{arith}
use Rattle.tcl_remainder.proofs.Turns.{powers_ended}
use Rattle.tcl_remainder.proofs.polynomial.degree_of_powers.Goals as goal

pub returns : goal.returns
returns c = omega (arith, c.loop-power.invariant.0, c.loop-power.invariant.1, powers_ended c.args.powers.now c.loop-power.power-index c.loop-power-test.false)
