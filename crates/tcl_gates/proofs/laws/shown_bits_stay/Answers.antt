use Rattle.tcl_gates.proofs.Shown.{word_kept}
use Rattle.tcl_gates.proofs.laws.shown_bits_stay.Goals as goal

pub returns : goal.returns
returns c = λ gates all free ls bits b s. word_kept b s
