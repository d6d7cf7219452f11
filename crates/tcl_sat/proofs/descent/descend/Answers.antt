use Rattle.std.proofs.Common.{◌∙◌, ap}
use Rattle.tcl_trail.specs.Trail.{TrailState}
use Rattle.tcl_sat.proofs.Jumps.{quiet_propagated, quiet_descended}
use Rattle.tcl_sat.proofs.descent.descend.Goals as goal

pub returns-in-Conflict-clause-quiet : goal.returns-in-Conflict-clause-quiet
returns-in-Conflict-clause-quiet c = quiet_propagated c.levels.trail c.propagate.new.self c.propagate.ensures.clauses c.propagate.ensures.grown c.levels.invariant.quiet

pub returns-in_default-pick-clause-quiet : goal.returns-in_default-pick-clause-quiet
returns-in_default-pick-clause-quiet c = quiet_propagated c.levels.trail c.propagate.new.self c.propagate.ensures.clauses c.propagate.ensures.grown c.levels.invariant.quiet

pub levels-preserved : goal.levels-preserved
levels-preserved c = record {
  same = ap (λ (t : TrailState). t.clauses) c.assume.ensures ∙ c.propagate.ensures.clauses ∙ c.levels.invariant.same;
  quiet = quiet_descended c.propagate.new.self c.assume.new.self c.in-Some.lit c.assume.ensures
      (quiet_propagated c.levels.trail c.propagate.new.self c.propagate.ensures.clauses c.propagate.ensures.grown c.levels.invariant.quiet) c.in_default.ensures.step;
}
