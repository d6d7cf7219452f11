use Rattle.std.proofs.Common.{◌-◌, length}
use Rattle.tcl_blast.proofs.exponent.+exponent_from.Given as goal

abbrev pub decreases-exponent_from : goal.decreases-exponent_from
decreases-exponent_from l = length l.parts.now - l.from
