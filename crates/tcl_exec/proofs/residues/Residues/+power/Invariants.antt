-- The exponent is halved.
use Rattle.tcl_exec.proofs.residues.Residues.+power.Given as goal

abbrev pub decreases-power : goal.decreases-power
decreases-power l = l.exponent
