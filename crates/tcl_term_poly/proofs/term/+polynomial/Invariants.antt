-- Each part of a term has fewer nodes.
use Rattle.tcl_term_poly.proofs.Nodes.{nodes}
use Rattle.tcl_term_poly.proofs.term.+polynomial.Given as goal

abbrev pub decreases-polynomial : goal.decreases-polynomial
decreases-polynomial g l = nodes l.term.now
