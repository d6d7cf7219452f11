-- The factors before k are equal, so the comparison from k on decides.
use Rattle.std.proofs.Common.{length, ◌-◌, ◌≡◌, ◌≤◌, drop}
use Rattle.tcl_poly.specs.Monomial as m
use Rattle.tcl_poly.specs.Unknown.{factors_of}
use Rattle.tcl_poly.proofs.mono.compare_factors.Given as goal

abbrev pub invariant-loop-k : goal.invariant-loop-k
invariant-loop-k l =
    (l.k ≤ length l.a) × (l.k ≤ length l.b) × (m.lex (factors_of (drop l.k l.a)) (factors_of (drop l.k l.b)) ≡ m.lex (factors_of l.a) (factors_of l.b))

abbrev pub decreases-loop-k : goal.decreases-loop-k
decreases-loop-k l = length l.a - l.k
