use Rattle.std.proofs.Common.{◌-◌, length}
use Rattle.tcl_measure.proofs.modulus.+value_from.Given as goal

abbrev pub decreases-value_from : goal.decreases-value_from
decreases-value_from l = length l.parts.now - l.from
