-- The power of as many factors as turns were made.
use Rattle.std.proofs.Common.{◌≡◌, ◌^◌, min}
use Rattle.tcl_measure.proofs.count.saturating_power.Given as goal

abbrev pub invariant-loop-turn : goal.invariant-loop-turn
invariant-loop-turn l = l.power ≡ min (l.base ^ l._turn) l.end
