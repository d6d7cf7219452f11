use Rattle.tcl_parse.proofs.TextNumber.{too_great}
use Rattle.tcl_parse.proofs.text.digits.number_of.Goals as goal

pub returns-in-None : goal.returns-in-None
returns-in-None c =
    too_great c.args.first c.args.digits.now c.loop-digit.digit-index c.loop-digit.value c.loop-digit-test.true c.loop-digit.invariant c.in-None.ensures
