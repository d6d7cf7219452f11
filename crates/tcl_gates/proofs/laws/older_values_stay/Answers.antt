use Rattle.tcl_gates.proofs.Values.{literal_kept}
use Rattle.tcl_gates.proofs.laws.older_values_stay.Goals as goal

pub returns : goal.returns
returns c = literal_kept
