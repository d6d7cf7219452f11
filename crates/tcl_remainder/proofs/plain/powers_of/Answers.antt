-- One power more.
use Rattle.tcl_poly.specs.Unknown.{factor_of}
use Rattle.tcl_goals.specs.declared.remainder.Power.{Power}
use Rattle.tcl_remainder.specs.Terms as t
use Rattle.tcl_remainder.proofs.Turns.{powers_more}
use Rattle.tcl_remainder.proofs.plain.powers_of.Goals as goal

pub loop-k-preserved : goal.loop-k-preserved
loop-k-preserved c =
    let power : Power = record { name = c.name_of.result; exponent = c.at-factor.result.exponent } in
    powers_more c.args.mono.now c.loop-k.k (factor_of c.at-factor.result) power c.loop-k.powers c.push.new.self (t.powers_of c.args.mono.now) c.at-factor.ensures
    (λ i. record { name = c.name_of.ensures i; exponent = c.at-factor.result.exponent }) c.in_ok-push.ensures.pushed c.loop-k.invariant
