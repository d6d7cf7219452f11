use Rattle.std.proofs.Common.{◌≡◌, ◌+◌, ◌≤◌, take, drop}
use Rattle.tcl_trail.specs.Assignment.{lits_of}
use Rattle.tcl_sat.specs.Analysis.{open_count}
use Rattle.tcl_sat.proofs.analysis.open_among.Given as goal

-- what is counted, and what is left to be counted
abbrev pub invariant-loop-lit : goal.invariant-loop-lit
invariant-loop-lit l =
    (l.count + open_count (take l.floor (lits_of l.trail.entries)) (drop l.lit-index l.lits) ≡ open_count (take l.floor (lits_of l.trail.entries)) l.lits) × (l.count ≤ l.lit-index)
