-- Each half is shorter.
use Rattle.std.proofs.Common.{length}
use Rattle.tcl_poly.proofs.multiplication.+multiply_terms.Given as goal

abbrev pub decreases-multiply_terms : goal.decreases-multiply_terms
decreases-multiply_terms g l = length l.a.now
