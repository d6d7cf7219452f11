-- The parts that were there stay.
use Rattle.std.proofs.Common.{◌≡◌, ℕ, suc, max, ◌-◌, ◌≤◌, length}
use Rattle.tcl_reduce.specs.Parts as s
use Rattle.tcl_reduce.proofs.parts.make_room.Given as goal

abbrev pub invariant-loop-alloc : goal.invariant-loop-alloc
invariant-loop-alloc g l =
    (length l.fn.parts.items ≤ length l.parts.items)
    × (length l.parts.items ≤ max (length l.fn.parts.items) (suc l.power))
    × ((k : ℕ) → s.by_power l.parts.items k ≡ s.by_power l.fn.parts.items k)

abbrev pub decreases-loop-alloc : goal.decreases-loop-alloc
decreases-loop-alloc g l = suc l.power - length l.parts.items
