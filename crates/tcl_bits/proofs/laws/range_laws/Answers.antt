use Rattle.tcl_bits.proofs.Ranges.{range_law, signed_range_law}
use Rattle.tcl_bits.proofs.laws.range_laws.Goals as goal

pub returns-clause-range : goal.returns-clause-range
returns-clause-range c = range_law

pub returns-clause-range_of_signed : goal.returns-clause-range_of_signed
returns-clause-range_of_signed c = signed_range_law
