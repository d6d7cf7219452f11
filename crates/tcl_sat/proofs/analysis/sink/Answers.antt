use Rattle.std.proofs.Common.{◌+◌, true, false}
use Rattle.tcl_sat.proofs.Explains.{told, skipped, stepped, next_at, number_there, never_given}
use Rattle.tcl_sat.proofs.Floors.{reason_read}
use Rattle.tcl_sat.proofs.analysis.sink.Goals as goal

pub returns-then-not-has : goal.returns-then-not-has
returns-then-not-has c =
    let t = c.args.trail.now in
    let d = c.args.derivation.now in
    skipped t.clauses t.entries d c.args.place c.at-lit.result c.at-lit.ensures c.requires.derived
    (told d c.at-lit.result c.negation.result c.has.result false c.negation.ensures c.has.ensures c.if-not-has.true)

pub unreachable-requires : goal.unreachable-requires
unreachable-requires c =
    let t = c.args.trail.now in
    let read = reason_read t.clauses t.entries c.args.place c.at-lit.result c.reason_at.result c.known.ensures.trail c.at-lit.ensures c.reason_at.ensures in
    never_given t.clauses t.entries c.args.place c.at-lit.result c.reason_at.result c.known.ensures.trail c.requires.given c.at-lit.ensures read c.in_default.is

pub clause-requires : goal.clause-requires
clause-requires c =
    let t = c.args.trail.now in
    let read = reason_read t.clauses t.entries c.args.place c.at-lit.result c.reason_at.result c.known.ensures.trail c.at-lit.ensures c.reason_at.ensures in
    number_there t.clauses c.args.log.now.clauses t.entries c.args.place c.at-lit.result c.in-Some.number c.reason_at.result c.known.ensures.trail c.at-lit.ensures read c.in-Some.is c.requires.agree

pub returns : goal.returns
returns c =
    let t = c.args.trail.now in
    let old = c.args.derivation.now in
    let new = c.resolve.new.self in
    let read = reason_read t.clauses t.entries c.args.place c.at-lit.result c.reason_at.result c.known.ensures.trail c.at-lit.ensures c.reason_at.ensures in
    let in_c = told old c.at-lit.result c.negation.result c.has.result true c.negation.ensures c.has.ensures c.if-not-has.false in
    stepped t.clauses t.entries old new c.args.place c.at-lit.result c.at-lit.ensures c.requires.derived
    (next_at t.clauses c.args.log.now.clauses t.entries old new c.clause.result.now (c.args.place + 1) c.args.place c.at-lit.result c.in-Some.number c.reason_at.result c.known.ensures.trail c.known.ensures.are_clauses
    c.requires.derived c.at-lit.ensures in_c read c.in-Some.is c.requires.agree c.clause.ensures c.in_ok-resolve.ensures)
