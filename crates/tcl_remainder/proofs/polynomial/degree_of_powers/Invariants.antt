-- The degree so far and that of the powers that are left are the whole degree.
use Rattle.std.proofs.Common.{◌≡◌, ◌+◌, ◌-◌, ◌≤◌, ◌^◌, min, drop}
use Rattle.tcl_poly.specs.Monomial as m
use Rattle.tcl_remainder.specs.Terms as t
use Rattle.tcl_remainder.proofs.polynomial.degree_of_powers.Given as goal

abbrev pub invariant-loop-power : goal.invariant-loop-power
invariant-loop-power l =
    (l.degree ≤ 2 ^ 32 - 1)
    × (min (l.degree + m.degree (t.monomial_of (drop l.power-index l.powers))) (2 ^ 32 - 1) ≡ min (m.degree (t.monomial_of l.powers)) (2 ^ 32 - 1))
