use Rattle.tcl_gates.proofs.Values.{literal-new}
use Rattle.tcl_gates.proofs.laws.a_new_gate_has_its_value.Goals as goal

pub returns : goal.returns
returns c = literal-new
