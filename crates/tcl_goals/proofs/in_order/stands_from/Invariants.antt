-- The bits that are left have the answer.
use Rattle.std.proofs.Common.{◌≡◌, drop}
use Rattle.std.specs.List.{list_any}
use Rattle.tcl_goals.specs.Order as orders
use Rattle.tcl_goals.proofs.in_order.stands_from.Given as goal

abbrev pub invariant-loop-k : goal.invariant-loop-k
invariant-loop-k l = list_any (orders.same_bit l.bit) (drop l.k l.bits) ≡ list_any (orders.same_bit l.bit) (drop l.from l.bits)
