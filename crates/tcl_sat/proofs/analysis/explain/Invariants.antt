use Rattle.std.proofs.Common.{◌≡◌, ◌≤◌, length, take}
use Rattle.tcl_trail.specs.Assignment.{lits_of}
use Rattle.tcl_sat.specs.Analysis.{IsPresent, open_count}
use Rattle.tcl_sat.proofs.analysis.explain.Given as goal

abbrev pub invariant-loop-place : goal.invariant-loop-place
invariant-loop-place l = record {
  present : IsPresent l.trail.clauses l.trail.entries l.derivation l.floor l.place;
  within : l.place ≤ length l.trail.entries;
  count : l.count ≡ open_count (take l.floor (lits_of l.trail.entries)) l.derivation.clause;
}

abbrev pub decreases-loop-place : goal.decreases-loop-place
decreases-loop-place l = l.place
