use Rattle.std.proofs.Common.{◌≤◌, length}
use Rattle.tcl_sat.specs.Analysis.{IsDerived}
use Rattle.tcl_sat.proofs.analysis.sink_all.Given as goal

abbrev pub invariant-loop-place : goal.invariant-loop-place
invariant-loop-place l = record {
  derived : IsDerived l.trail.clauses l.trail.entries l.derivation l.place;
  within : l.place ≤ length l.trail.entries;
}

abbrev pub decreases-loop-place : goal.decreases-loop-place
decreases-loop-place l = l.place
