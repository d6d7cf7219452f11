use Rattle.tcl_bits.proofs.Comparisons.{less_law, equal_law}
use Rattle.tcl_bits.proofs.laws.comparison_laws.Goals as goal

pub returns-clause-less : goal.returns-clause-less
returns-clause-less c = less_law

pub returns-clause-equal : goal.returns-clause-equal
returns-clause-equal c = equal_law
