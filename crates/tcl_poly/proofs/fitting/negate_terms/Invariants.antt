-- The row so far, followed by the negation of the terms that are left, is the whole negation.
use Rattle.std.proofs.Common.{◌≡◌, [], ◌++◌, drop, negsuc}
use Rattle.tcl_ring.specs.Reduction.{reduced_by}
use Rattle.tcl_poly.specs.Polynomial as p
use Rattle.tcl_poly.proofs.fitting.negate_terms.Given as goal

abbrev pub invariant-loop-term : goal.invariant-loop-term
invariant-loop-term g l =
    let reduced = reduced_by (g.R.Ring.modulus_of l.ring) in
    let value = g.R.Ring.amount l.ring in
    p.terms_of value l.row.items ++ p.scaled reduced ([], negsuc 0) (p.terms_of value (drop l.term-index l.a)) ≡ p.scaled reduced ([], negsuc 0) (p.terms_of value l.a)
