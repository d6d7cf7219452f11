use Rattle.tcl_gate.proofs.Fitting.{fitting_taken}
use Rattle.tcl_gate.proofs.laws.fitting_is_taken.Goals as goal

pub returns : goal.returns
returns g c = fitting_taken g.E.Evidence.causes
