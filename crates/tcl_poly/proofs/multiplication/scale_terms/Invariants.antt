-- The row so far, followed by the product with the terms that are left, is the whole row.
use Rattle.std.proofs.Common.{◌≡◌, ◌++◌, drop}
use Rattle.tcl_ring.specs.Reduction.{reduced_by}
use Rattle.tcl_poly.specs.Polynomial as p
use Rattle.tcl_poly.proofs.multiplication.scale_terms.Given as goal

abbrev pub invariant-loop-term : goal.invariant-loop-term
invariant-loop-term g l =
    let reduced = reduced_by (g.R.Ring.modulus_of l.ring) in
    let value = g.R.Ring.amount l.ring in
    p.terms_of value l.row.items ++ p.scaled reduced (l.mono, value l.c) (p.terms_of value (drop l.term-index l.a)) ≡ p.scaled reduced (l.mono, value l.c) (p.terms_of value l.a)
