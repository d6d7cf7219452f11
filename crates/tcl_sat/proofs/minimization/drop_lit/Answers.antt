use Rattle.std.proofs.Common.{true}
use Rattle.tcl_sat.proofs.Explains.{told, number_there}
use Rattle.tcl_sat.proofs.Walks.{below_told, dropped_below}
use Rattle.tcl_sat.proofs.minimization.drop_lit.Goals as goal

pub clause-requires : goal.clause-requires
clause-requires c =
    let t = c.args.trail.now in
    let below = below_told t.entries c.args._floor c.args.level c.args.lit c.level_of.result (record { each = c.requires.tells.each }) c.level_of.ensures c.if-not-level_of-level.false in
    number_there t.clauses c.args.log.now.clauses t.entries below.place c.args.lit c.in-Some.number c.reason.result c.known.ensures.trail below.there c.reason.ensures c.in-Some.is c.requires.agree

pub returns : goal.returns
returns c =
    let t = c.args.trail.now in
    let old = c.args.derivation.now in
    let new = c.resolve.new.self in
    let below = below_told t.entries c.args._floor c.args.level c.args.lit c.level_of.result (record { each = c.requires.tells.each }) c.level_of.ensures c.if-not-level_of-level.false in
    let in_c = told old c.args.lit c.negation.result c.has.result true c.negation.ensures c.has.ensures c.if-not-has.false in
    dropped_below t.clauses c.args.log.now.clauses t.entries old new c.clause.result.now c.args._floor c.args.lit c.args._point c.in-Some.number c.reason.result c.known.ensures.trail c.known.ensures.are_clauses
    c.requires.point below in_c c.reason.ensures c.in-Some.is c.requires.agree c.clause.ensures c.in_ok-resolve.ensures
