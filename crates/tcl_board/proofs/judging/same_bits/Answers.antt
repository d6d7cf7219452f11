use Rattle.tcl_board.proofs.OwnLemmas.{bits_tell}
use Rattle.tcl_board.proofs.judging.same_bits.Goals as goal

pub returns : goal.returns
returns c = bits_tell c.same.result c.args.a.now c.args.b.now c.same.ensures.same
