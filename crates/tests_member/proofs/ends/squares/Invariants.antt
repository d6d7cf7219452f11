-- The product is over the integers.
use Rattle.std.proofs.Common.{None}
use Rattle.tcl_poly.specs.Polynomial.{IsOver}
use Rattle.tests_member.proofs.ends.squares.Given as goal

abbrev pub invariant-loop-variable : goal.invariant-loop-variable
invariant-loop-variable l = IsOver None (λ n. n) l.product
