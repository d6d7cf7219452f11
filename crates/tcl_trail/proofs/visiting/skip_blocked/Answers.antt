use Rattle.std.proofs.Common.{sym, ◌∙◌, arith, ◌+◌, ◌≤◌}
use Rattle.tcl_trail.proofs.VisitLemmas.{kept_blocked}
use Rattle.tcl_trail.proofs.visiting.skip_blocked.Goals as goal

pub blocked-preserved : goal.blocked-preserved
blocked-preserved c =
    let kept = kept_blocked c.args._clauses.now c.args.assigned.now c.args.watching.now c.args.lit c.blocked.i c.watch_at-watch.result c.requires.watching c.requires.next c.blocked.invariant.0 c.watch_at-watch.ensures
    (sym c.is_true.ensures ∙ c.if-not-is_true.false) in
    (kept.visited, omega (arith, c.blocked.invariant.1))
