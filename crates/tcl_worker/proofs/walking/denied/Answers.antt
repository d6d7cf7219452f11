-- The walk ends at an assignment that denies the fact, so nothing settles it.
use Rattle.tcl_worker.proofs.Walks.{ended_fails, few_walked, failing_unsettled, told_failing}
use Rattle.tcl_worker.proofs.walking.denied.Goals as goal

pub returns : goal.returns
returns c =
    let p = c.args.ssa.now in
    let fact = c.args.fact.now in
    let free = c.args.free.now in
    told_failing p c.args.budget fact free c.as_slice.result.now c.lines.result.now c.input_of.result c.requires.unbounded
    (few_walked p c.args.budget fact c.requires.few (ended_fails p fact free c.requires.fails)) c.requires.fails
    (failing_unsettled p fact free c.requires.formed c.requires.order c.know_ring.ensures c.requires.unbounded c.requires.fails)
    c.as_slice.ensures c.lines.ensures.lines c.input_of.ensures
