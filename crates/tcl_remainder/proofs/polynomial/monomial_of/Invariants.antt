-- The factors so far, followed by those of the powers that are left, are the whole monomial.
use Rattle.std.proofs.Common.{◌≡◌, ◌++◌, drop}
use Rattle.tcl_remainder.specs.Terms as t
use Rattle.tcl_remainder.proofs.polynomial.monomial_of.Given as goal

abbrev pub invariant-loop-power : goal.invariant-loop-power
invariant-loop-power l = l.mono ++ t.monomial_of (drop l.power-index l.powers) ≡ t.monomial_of l.powers
