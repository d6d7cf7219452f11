use Rattle.tcl_sat.proofs.Explains.{never_below}
use Rattle.tcl_sat.proofs.analysis.explain.Goals as goal

pub unreachable-requires : goal.unreachable-requires
unreachable-requires c = never_below c.args.trail.now.clauses c.args.trail.now.entries c.loop-place.derivation c.args.floor c.loop-place.place c.loop-place.invariant.present c.loop-place-test.false
