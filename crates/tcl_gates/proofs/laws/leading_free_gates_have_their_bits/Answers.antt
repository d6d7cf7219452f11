use Rattle.tcl_gates.proofs.Appending.{leading_bits}
use Rattle.tcl_gates.proofs.laws.leading_free_gates_have_their_bits.Goals as goal

pub returns : goal.returns
returns c = leading_bits
