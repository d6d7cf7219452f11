-- Whether all terms are plain is decided by those that are left.
use Rattle.std.proofs.Common.{◌≡◌, drop}
use Rattle.tcl_poly.specs.Polynomial as p
use Rattle.tcl_remainder.specs.Terms as t
use Rattle.tcl_remainder.proofs.plain.is_plain.Given as goal

abbrev pub invariant-loop-term : goal.invariant-loop-term
invariant-loop-term g l =
    let value = g.R.Ring.amount l.ring in
    t.is_plain (p.terms_of value (drop l.term-index l.poly)) ≡ t.is_plain (p.terms_of value l.poly)
