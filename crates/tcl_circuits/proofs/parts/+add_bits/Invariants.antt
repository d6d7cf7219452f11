use Rattle.tcl_circuits.proofs.parts.+add_bits.Given as goal

abbrev pub decreases-add_bits : goal.decreases-add_bits
decreases-add_bits l = l.width
