-- The numbers that are left have the answer.
use Rattle.std.proofs.Common.{◌≡◌, drop}
use Rattle.tcl_goals.specs.Numbers as numbers
use Rattle.tcl_goals.proofs.in_order.numbers_rise.Given as goal

abbrev pub invariant-loop-k : goal.invariant-loop-k
invariant-loop-k l = numbers.rise_after l.last (drop l.k l.items) ≡ numbers.numbers_rise l.items
