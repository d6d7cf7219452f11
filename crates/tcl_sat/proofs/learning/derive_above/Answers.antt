use Rattle.tcl_sat.proofs.Explains.{started_above}
use Rattle.tcl_sat.proofs.Jumps.{agreed}
use Rattle.tcl_sat.proofs.learning.derive_above.Goals as goal

pub explain-requires-clause-present : goal.explain-requires-clause-present
explain-requires-clause-present c =
    let t = c.args.trail.now in
    started_above t.clauses t.entries c.begin.new.self c.args.floor c.args.number c.clause-clause.result.now c.known.ensures.are_clauses c.requires.falsified
    (agreed c.args.log.now.clauses t.clauses c.args.number c.clause-clause.result.now c.requires.state.agree c.clause-clause.ensures) c.in_ok-begin.ensures c.requires.state.quiet c.requires.floor
