-- The terms that were passed are copied.
use Rattle.std.proofs.Common.{◌≡◌, take}
use Rattle.tcl_poly.proofs.poly.Poly.copy.Given as goal

abbrev pub invariant-loop-term : goal.invariant-loop-term
invariant-loop-term g l = l.copied.items ≡ take l.term-index l.term-items
