-- The summands so far, followed by those of the terms that are left, are all.
use Rattle.std.proofs.Common.{◌≡◌, ◌++◌, drop}
use Rattle.tcl_poly.specs.Polynomial as p
use Rattle.tcl_remainder.specs.Terms as t
use Rattle.tcl_remainder.proofs.plain.remainder_of.Given as goal

abbrev pub invariant-loop-term : goal.invariant-loop-term
invariant-loop-term g l =
    let value = g.R.Ring.amount l.ring in
    l.summands ++ t.summands_of (p.terms_of value (drop l.term-index l.poly)) ≡ t.summands_of (p.terms_of value l.poly)
