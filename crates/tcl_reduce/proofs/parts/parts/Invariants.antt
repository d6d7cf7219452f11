-- The parts of the terms that were passed, followed by those of the others, are the parts of all.
use Rattle.std.proofs.Common.{◌≡◌, ℕ, suc, max, ◌<◌, ◌++◌, length}
use Rattle.std.specs.Vec.Iter.{into_iter_items, into_iter_len}
use Rattle.tcl_reduce.specs.Parts as s
use Rattle.tcl_reduce.proofs.parts.parts.Given as goal

abbrev pub invariant-loop-term : goal.invariant-loop-term
invariant-loop-term g l =
    let left = into_iter_items l.term-iterator in
    (0 < length l.parts.items)
    × (max (length l.parts.items) (suc (s.top l.key left)) ≡ suc (s.top l.key l.fn.f))
    × ((k : ℕ) → s.by_power l.parts.items k ++ s.part l.key k left ≡ s.part l.key k l.fn.f)
    × (into_iter_len l.term-iterator ≡ length left)
