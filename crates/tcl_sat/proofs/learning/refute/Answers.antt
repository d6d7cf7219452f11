use Rattle.std.proofs.Common.{subst}
use Rattle.tcl_sat.specs.State.{AddsOne}
use Rattle.tcl_sat.proofs.Explains.{started, nothing_left}
use Rattle.tcl_sat.proofs.Jumps.{agreed}
use Rattle.tcl_sat.proofs.learning.refute.Goals as goal

pub sink_all-requires-clause-derived : goal.sink_all-requires-clause-derived
sink_all-requires-clause-derived c =
    let t = c.args.trail.now in
    started t.clauses t.entries c.begin.new.self c.args.number c.clause.result.now c.known.ensures.are_clauses c.requires.falsified
    (agreed c.args.log.now.clauses t.clauses c.args.number c.clause.result.now c.requires.agree c.clause.ensures) c.in_ok-begin.ensures

pub returns : goal.returns
returns c =
    let t = c.args.trail.now in
    subst (λ x. AddsOne c.args.log.now c.log_derived.new.log x) (nothing_left t.clauses t.entries c.sink_all.new.derivation c.in_ok-sink_all.ensures) c.in_ok-log_derived.ensures.added
