use Rattle.std.proofs.Common.{◌≡◌, ℕ, ◌+◌, true, false, List, [], ◌∷◌, ◌++◌, sym, subst}
use Rattle.tcl_cnf.specs.Literal.{neg}
use Rattle.tcl_cnf.specs.Clause.{union, without}
use Rattle.tcl_sat.specs.Analysis.{IsPoint}
use Rattle.tcl_sat.proofs.Explains.{told, turn_skipped, turn_stepped, next_at, number_there, never_assumed, floor_below}
use Rattle.tcl_sat.proofs.Floors.{reason_read, not_in_front}
use Rattle.tcl_sat.proofs.Walks.{point_told, above_told}
use Rattle.tcl_sat.proofs.analysis.turn.Goals as goal

pub returns-then-not-has : goal.returns-then-not-has
returns-then-not-has c =
    let t = c.args.trail.now in
    let d = c.args.derivation.now in (
      turn_skipped t.clauses t.entries d c.args.floor c.args.place c.at-lit.result c.at-lit.ensures c.requires.present
          (told d c.at-lit.result c.negation-negated.result c.has.result false c.negation-negated.ensures c.has.ensures c.if-not-has.true),
      c.requires.count,
    )

pub returns-then-count-eq1 : goal.returns-then-count-eq1
returns-then-count-eq1 c =
    let t = c.args.trail.now in
    let d = c.args.derivation.now in
    subst (λ x. IsPoint t.clauses t.entries d c.args.floor x) (sym c.negation-negated.ensures)
    (point_told t.clauses t.entries d c.args.floor c.args.place c.at-lit.result c.args.count c.known.ensures.trail c.at-lit.ensures c.requires.above c.requires.present
    (told d c.at-lit.result c.negation-negated.result c.has.result true c.negation-negated.ensures c.has.ensures c.if-not-has.false) c.requires.count c.if-count-eq1.true)

pub unreachable-requires : goal.unreachable-requires
unreachable-requires c =
    let t = c.args.trail.now in
    let d = c.args.derivation.now in
    let in_c = told d c.at-lit.result c.negation-negated.result c.has.result true c.negation-negated.ensures c.has.ensures c.if-not-has.false in
    let above = above_told t.clauses t.entries d c.args.floor c.args.place c.at-lit.result c.args.count c.known.ensures.trail c.at-lit.ensures c.requires.above c.requires.present in_c c.requires.count c.if-count-eq1.false in
    let read = reason_read t.clauses t.entries c.args.place c.at-lit.result c.reason_at.result c.known.ensures.trail c.at-lit.ensures c.reason_at.ensures in
    never_assumed t.clauses t.entries c.args.floor c.args.place c.at-lit.result c.reason_at.result c.known.ensures.trail c.requires.floor
    (floor_below t.entries d.clause c.args.floor c.args.place c.at-lit.result c.at-lit.ensures c.requires.present.derived.before above c.requires.above) c.at-lit.ensures read c.in_default.is

pub clause-reason-requires : goal.clause-reason-requires
clause-reason-requires c =
    let t = c.args.trail.now in
    let read = reason_read t.clauses t.entries c.args.place c.at-lit.result c.reason_at.result c.known.ensures.trail c.at-lit.ensures c.reason_at.ensures in
    number_there t.clauses c.args.log.now.clauses t.entries c.args.place c.at-lit.result c.in-Some.number c.reason_at.result c.known.ensures.trail c.at-lit.ensures read c.in-Some.is c.requires.agree

pub resolve_counted-requires-clause-above : goal.resolve_counted-requires-clause-above
resolve_counted-requires-clause-above c =
    let t = c.args.trail.now in
    not_in_front t.clauses t.entries c.args.floor c.args.place c.at-lit.result c.known.ensures.trail c.at-lit.ensures c.requires.above

pub returns : goal.returns
returns c =
    let t = c.args.trail.now in
    let old = c.args.derivation.now in
    let new = c.resolve_counted.new.derivation in
    let in_c = told old c.at-lit.result c.negation-negated.result c.has.result true c.negation-negated.ensures c.has.ensures c.if-not-has.false in
    let above = above_told t.clauses t.entries old c.args.floor c.args.place c.at-lit.result c.args.count c.known.ensures.trail c.at-lit.ensures c.requires.above c.requires.present in_c c.requires.count c.if-count-eq1.false in
    let read = reason_read t.clauses t.entries c.args.place c.at-lit.result c.reason_at.result c.known.ensures.trail c.at-lit.ensures c.reason_at.ensures in
    let l = c.at-lit.result in
    let resolved = subst (λ (x : List ℕ). new ≡ record { chain = old.chain ++ c.in-Some.number ∷ []; clause = union (without (neg l) old.clause) (without l x) }) c.lits.ensures c.in_ok-next.ensures.resolved in (
      turn_stepped t.clauses t.entries old new c.args.floor c.args.place l c.at-lit.ensures c.requires.present above
          (next_at t.clauses c.args.log.now.clauses t.entries old new c.clause-reason.result.now (c.args.place + 1) c.args.place l c.in-Some.number c.reason_at.result c.known.ensures.trail c.known.ensures.are_clauses
          c.requires.present.derived c.at-lit.ensures in_c read c.in-Some.is c.requires.agree c.clause-reason.ensures resolved),
      c.in_ok-next.ensures.count,
    )
