-- The law is a lemma.
use Rattle.tcl_kernel.proofs.ModelStrays.{strays_break}
use Rattle.tcl_kernel.proofs.laws.strays_break.Goals as goal

pub returns : goal.returns
returns c = strays_break
