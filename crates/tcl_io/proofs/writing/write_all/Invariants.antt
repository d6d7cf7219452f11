use Rattle.std.proofs.Common.{◌≡◌, ◌+◌, ◌-◌, ◌≤◌, length, take}
use Rattle.tcl_io.specs.Sink.{and_then}
use Rattle.tcl_io.proofs.writing.write_all.Given as goal

-- the sink took the front of the piece that is written so far
abbrev pub invariant-loop-written : goal.invariant-loop-written
invariant-loop-written g l =
    (g.K.Sink.taken l.sink ≡ and_then (g.K.Sink.taken l.fn.sink) (take l.written l.bytes))
    × (g.K.Sink.held l.sink ≡ g.K.Sink.held l.fn.sink + l.written)
    × (l.written ≤ length l.bytes)
    × (g.K.Sink.faults l.fn.sink ≤ g.K.Sink.faults l.sink)

abbrev pub decreases-loop-written : goal.decreases-loop-written
decreases-loop-written g l = length l.bytes - l.written
