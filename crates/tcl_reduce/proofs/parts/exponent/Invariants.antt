-- The exponent is that of the factors from k on.
use Rattle.std.proofs.Common.{◌≡◌, drop}
use Rattle.tcl_poly.specs.Monomial as m
use Rattle.tcl_reduce.proofs.parts.exponent.Given as goal

abbrev pub invariant-loop-k : goal.invariant-loop-k
invariant-loop-k l = m.exponent (drop l.k l.mono) l.key ≡ m.exponent l.mono l.key
