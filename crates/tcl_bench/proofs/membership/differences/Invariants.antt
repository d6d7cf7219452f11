-- The equations are over the integers and not too deep.
use Rattle.std.proofs.Common.{None}
use Rattle.tcl_poly.specs.Combination.{AreOver}
use Rattle.tcl_reduce.specs.Equated.{AreShallow}
use Rattle.tcl_bench.proofs.membership.differences.Given as goal

abbrev pub invariant-loop-k : goal.invariant-loop-k
invariant-loop-k l = AreOver None (λ n. n) l.list × AreShallow l.list
