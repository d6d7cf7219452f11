-- The bits that are left have the answer.
use Rattle.std.proofs.Common.{◌≡◌, drop}
use Rattle.tcl_goals.specs.Order as orders
use Rattle.tcl_goals.proofs.in_order.bits_differ.Given as goal

abbrev pub invariant-loop-k : goal.invariant-loop-k
invariant-loop-k l = orders.bits_differ (drop l.k l.bits) ≡ orders.bits_differ l.bits
