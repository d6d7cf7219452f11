use Rattle.std.proofs.Common.{◌≡◌, ◌∙◌, arith}
use Rattle.std.proofs.lemmas.Nat.{one_shl}
use Rattle.tcl_measure.proofs.Saturation.{two_below, two_from}
use Rattle.tcl_measure.proofs.term.power_of_two.Goals as goal

pub returns-then-exponent-lt126 : goal.returns-then-exponent-lt126
returns-then-exponent-lt126 c =
    one_shl c.args.exponent 128 (omega (arith, c.if-exponent-lt126.true)) ∙ two_below c.args.exponent c.if-exponent-lt126.true

pub returns-else-exponent-lt126 : goal.returns-else-exponent-lt126
returns-else-exponent-lt126 c = two_from c.args.exponent (omega (arith, c.if-exponent-lt126.false))
