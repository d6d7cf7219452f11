use Rattle.std.proofs.Common.{◌≤◌, vec_len}
use Rattle.tcl_sat.specs.Analysis.{IsPoint}
use Rattle.tcl_sat.proofs.minimization.Minimizer.minimize.Given as goal

abbrev pub invariant-loop-count : goal.invariant-loop-count
invariant-loop-count l = record {
  point : IsPoint l.trail.clauses l.trail.entries l.derivation l.floor l.point;
  below : l.count ≤ vec_len l.self.following;
}

abbrev pub decreases-loop-count : goal.decreases-loop-count
decreases-loop-count l = l.count
