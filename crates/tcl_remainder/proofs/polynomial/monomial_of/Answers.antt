-- The next factor is later than those so far, and the degree stays narrow.
use Rattle.tcl_remainder.proofs.Turns.{power_later, power_narrow}
use Rattle.tcl_remainder.proofs.polynomial.monomial_of.Goals as goal

pub push-requires-clause-later : goal.push-requires-clause-later
push-requires-clause-later c =
    power_later c.args.powers.now c.loop-power.power-index c.loop-power.mono _ c.loop-power-test.true c.requires.powers c.loop-power.invariant c.unknown_of.ensures

pub push-requires-clause-narrow : goal.push-requires-clause-narrow
push-requires-clause-narrow c =
    power_narrow c.args.powers.now c.loop-power.power-index c.loop-power.mono c.loop-power-test.true c.requires.narrow c.loop-power.invariant
