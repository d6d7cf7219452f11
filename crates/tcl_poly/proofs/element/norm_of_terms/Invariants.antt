-- The norm so far and that of the terms that are left are the whole norm.
use Rattle.std.proofs.Common.{◌≡◌, ◌+◌, ◌≤◌, ◌^◌, min, drop}
use Rattle.tcl_poly.specs.Polynomial.{norm_of, terms_of}
use Rattle.tcl_poly.proofs.element.norm_of_terms.Given as goal

abbrev pub invariant-loop-term : goal.invariant-loop-term
invariant-loop-term g l =
    (l.norm ≤ 2 ^ 127)
    × (min (l.norm + norm_of (terms_of (g.R.Ring.amount l.ring) (drop l.term-index l.terms))) (2 ^ 127) ≡ min (norm_of (terms_of (g.R.Ring.amount l.ring) l.terms)) (2 ^ 127))
