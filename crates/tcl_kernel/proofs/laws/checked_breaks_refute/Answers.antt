-- The law is a lemma.
use Rattle.tcl_kernel.proofs.Refutations.{breaks_refute}
use Rattle.tcl_kernel.proofs.laws.checked_breaks_refute.Goals as goal

pub returns : goal.returns
returns c = breaks_refute
