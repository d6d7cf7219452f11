use Rattle.std.proofs.Common.{◌≡◌, ◌+◌, ◌-◌, ◌≤◌, vec_len}
use Rattle.tcl_io.specs.Source.{then_left, total_of}
use Rattle.tcl_io.proofs.reading.read_all.Given as goal

-- what is read so far and what is left are what was left at first
abbrev pub invariant-loop-n : goal.invariant-loop-n
invariant-loop-n g l =
    (g.S.Source.left l.fn.source ≡ then_left l.all.items (g.S.Source.left l.source))
    × (g.S.Source.given l.source ≡ g.S.Source.given l.fn.source + vec_len l.all)
    × (total_of (g.S.Source.left l.fn.source) (g.S.Source.given l.fn.source) ≡ total_of (g.S.Source.left l.source) (g.S.Source.given l.source))
    × (vec_len l.all ≤ l.limit)
    × (g.S.Source.faults l.fn.source ≤ g.S.Source.faults l.source)

abbrev pub decreases-loop-n : goal.decreases-loop-n
decreases-loop-n g l = l.limit - vec_len l.all
