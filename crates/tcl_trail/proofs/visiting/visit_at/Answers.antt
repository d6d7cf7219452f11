use Rattle.std.proofs.Common.{sym, ◌∙◌, ap, subst, List, ℕ, arith, ◌<◌, length}
use Rattle.tcl_cnf.specs.Clause.{has}
use Rattle.tcl_trail.specs.Assignment.{lits_of}
use Rattle.tcl_trail.specs.Assigned.{AssignedState}
use Rattle.tcl_trail.specs.Watching.{WatchState, watches, IsFree}
use Rattle.tcl_trail.specs.Visits.{Visits}
use Rattle.tcl_trail.proofs.Holding.{read_there}
use Rattle.tcl_trail.proofs.Shifting.{numbers_at}
use Rattle.tcl_trail.proofs.VisitLemmas.{visits_same, kept_no_clause, kept_no_pair, kept_no_other, kept_true, kept_blocked, next_apart, given_is, moved_is, given_visits, given_kept}
use Rattle.tcl_trail.proofs.Reblocking.{known_there, reblocked_visits, reblocked_kept}
use Rattle.tcl_trail.proofs.visiting.visit_at.Goals as goal

pub returns-then-k-clauses-clause-visit : goal.returns-then-k-clauses-clause-visit
returns-then-k-clauses-clause-visit c =
    kept_no_clause c.args.clauses.now c.args.assigned.now c.args.watching.now c.args.lit c.args.i c.watch_at-seen.result.number c.requires.visited (numbers_at (watches c.args.watching.now.lists c.args.lit) c.args.i c.watch_at-seen.result c.watch_at-seen.ensures) c.if-k-clauses.true

pub returns-in_default-clause-visits : goal.returns-in_default-clause-visits
returns-in_default-clause-visits c = visits_same c.args.clauses.now c.args.assigned.now c.args.watching.now c.requires.held c.requires.watching

pub returns-in_default-clause-visit : goal.returns-in_default-clause-visit
returns-in_default-clause-visit c =
    kept_no_pair c.args.clauses.now c.args.assigned.now c.args.watching.now c.args.lit c.args.i c.watch_at-seen.result.number c.requires.visited (numbers_at (watches c.args.watching.now.lists c.args.lit) c.args.i c.watch_at-seen.result c.watch_at-seen.ensures) (sym c.in_default.ensures)

pub returns-in_default-other_of-clause-visits : goal.returns-in_default-other_of-clause-visits
returns-in_default-other_of-clause-visits c = visits_same c.args.clauses.now c.args.assigned.now c.args.watching.now c.requires.held c.requires.watching

pub returns-in_default-other_of-clause-visit : goal.returns-in_default-other_of-clause-visit
returns-in_default-other_of-clause-visit c =
    kept_no_other c.args.clauses.now c.args.assigned.now c.args.watching.now c.args.lit c.args.i c.watch_at-seen.result.number c.in-Some.pair c.requires.watching c.requires.next c.requires.visited (numbers_at (watches c.args.watching.now.lists c.args.lit) c.args.i c.watch_at-seen.result c.watch_at-seen.ensures)
    (sym c.in-Some.ensures) c.in_default-other_of.ensures

pub returns-then-is_true-clause-visits : goal.returns-then-is_true-clause-visits
returns-then-is_true-clause-visits c = visits_same c.args.clauses.now c.args.assigned.now c.args.watching.now c.requires.held c.requires.watching

pub returns-then-is_true-clause-visit : goal.returns-then-is_true-clause-visit
returns-then-is_true-clause-visit c =
    kept_blocked c.args.clauses.now c.args.assigned.now c.args.watching.now c.args.lit c.args.i c.watch_at-seen.result c.requires.watching c.requires.next c.requires.visited c.watch_at-seen.ensures
    (sym c.is_true.ensures ∙ c.if-is_true.true)

pub reblock-requires : goal.reblock-requires
reblock-requires c = numbers_at (watches c.args.watching.now.lists c.args.lit) c.args.i c.watch_at-seen.result c.watch_at-seen.ensures

pub returns-then-is_true-2-clause-visits : goal.returns-then-is_true-2-clause-visits
returns-then-is_true-2-clause-visits c =
    let number = c.watch_at-seen.result.number in
    let there = known_there c.args.clauses.now number (omega (arith, c.if-k-clauses.false)) in
    reblocked_visits c.args.clauses.now c.args.assigned.now c.args.watching.now c.reblock.new.self c.args.lit number c.in-Some-other_of.other there.0 c.in-Some.pair c.requires.held c.requires.watching there.1
    (sym c.in-Some.ensures) c.in-Some-other_of.ensures c.reblock.ensures.reblocked c.reblock.ensures.same

pub returns-then-is_true-2-clause-visit : goal.returns-then-is_true-2-clause-visit
returns-then-is_true-2-clause-visit c =
    reblocked_kept c.args.clauses.now c.args.assigned.now c.args.watching.now c.reblock.new.self c.args.lit c.args.i (record { number = c.watch_at-seen.result.number; blocker = c.in-Some-other_of.other }) c.reblock.ensures.reblocked c.reblock.ensures.same
    (kept_true c.args.clauses.now c.args.assigned.now c.args.watching.now c.args.lit c.args.i c.watch_at-seen.result.number c.in-Some-other_of.other c.in-Some.pair c.requires.watching c.requires.next c.requires.visited
    (numbers_at (watches c.args.watching.now.lists c.args.lit) c.args.i c.watch_at-seen.result c.watch_at-seen.ensures)
    (sym c.in-Some.ensures) c.in-Some-other_of.ensures (sym c.is_true-2.ensures ∙ c.if-is_true-2.true))

pub rewatch-requires-clause-there : goal.rewatch-requires-clause-there
rewatch-requires-clause-there c = numbers_at (watches c.args.watching.now.lists c.args.lit) c.args.i c.watch_at-seen.result c.watch_at-seen.ensures

pub rewatch-requires-clause-apart : goal.rewatch-requires-clause-apart
rewatch-requires-clause-apart c =
    next_apart c.args.assigned.now.entries c.args.watching.now.head c.args.lit c.in-Some-free_lit.free.lit c.in-Some-other_of.other c.lits.result.now c.requires.next c.in-Some-free_lit.ensures

pub give-requires-clause-clause : goal.give-requires-clause-clause
give-requires-clause-clause c =
    given_is c.args.clauses.now c.args.assigned.now.entries c.args.watching.now c.args.lit c.watch_at-seen.result.number c.in-Some-other_of.other c.index-clauses-k.result c.lits.result.now c.in-Some.pair c.requires.watching.watched
    (read_there c.args.clauses.now c.watch_at-seen.result.number c.index-clauses-k.result c.if-k-clauses.false c.index-clauses-k.is) (sym c.in-Some.ensures) c.in-Some-other_of.ensures c.lits.ensures c.in-None.ensures

pub returns-then-rewatch-clause-visits : goal.returns-then-rewatch-clause-visits
returns-then-rewatch-clause-visits c =
    (moved_is c.args.clauses.now c.args.assigned.now c.args.watching.now c.rewatch.new.self c.args.lit c.args.i c.watch_at-seen.result.number c.in-Some-other_of.other c.in-Some-free_lit.free.lit c.in-Some-free_lit.free.place c.index-clauses-k.result c.in-Some.pair
    c.requires.held c.requires.watching c.requires.next c.requires.visited
    (read_there c.args.clauses.now c.watch_at-seen.result.number c.index-clauses-k.result c.if-k-clauses.false c.index-clauses-k.is) (sym c.in-Some.ensures) c.in-Some-other_of.ensures
    (subst (λ (x : List ℕ). IsFree (lits_of c.args.assigned.now.entries) x c.in-Some-other_of.other c.in-Some-free_lit.free.lit) c.lits.ensures c.in-Some-free_lit.ensures) c.if-rewatch.ensures).visits

pub returns-then-rewatch-clause-visit : goal.returns-then-rewatch-clause-visit
returns-then-rewatch-clause-visit c =
    (moved_is c.args.clauses.now c.args.assigned.now c.args.watching.now c.rewatch.new.self c.args.lit c.args.i c.watch_at-seen.result.number c.in-Some-other_of.other c.in-Some-free_lit.free.lit c.in-Some-free_lit.free.place c.index-clauses-k.result c.in-Some.pair
    c.requires.held c.requires.watching c.requires.next c.requires.visited
    (read_there c.args.clauses.now c.watch_at-seen.result.number c.index-clauses-k.result c.if-k-clauses.false c.index-clauses-k.is) (sym c.in-Some.ensures) c.in-Some-other_of.ensures
    (subst (λ (x : List ℕ). IsFree (lits_of c.args.assigned.now.entries) x c.in-Some-other_of.other c.in-Some-free_lit.free.lit) c.lits.ensures c.in-Some-free_lit.ensures) c.if-rewatch.ensures).moved

pub returns-else-rewatch-clause-visits : goal.returns-else-rewatch-clause-visits
returns-else-rewatch-clause-visits c =
    subst (λ (x : WatchState). Visits c.args.clauses.now c.args.assigned.now c.args.assigned.now c.args.watching.now x) (sym c.if-rewatch.ensures)
    (visits_same c.args.clauses.now c.args.assigned.now c.args.watching.now c.requires.held c.requires.watching)

pub returns-then-give-clause-visits : goal.returns-then-give-clause-visits
returns-then-give-clause-visits c =
    given_visits c.args.clauses.now c.args.assigned.now c.give.new.assigned c.args.watching.now c.in-Some-other_of.other c.watch_at-seen.result.number c.give.ensures.held c.requires.watching c.if-give.ensures.given

pub returns-then-give-clause-visit : goal.returns-then-give-clause-visit
returns-then-give-clause-visit c =
    given_kept c.args.clauses.now c.args.assigned.now c.give.new.assigned c.args.watching.now c.args.lit c.args.i c.watch_at-seen.result.number c.in-Some-other_of.other c.in-Some.pair c.requires.watching c.requires.next c.requires.visited (numbers_at (watches c.args.watching.now.lists c.args.lit) c.args.i c.watch_at-seen.result c.watch_at-seen.ensures)
    (sym c.in-Some.ensures) c.in-Some-other_of.ensures c.if-give.ensures.given

pub returns-else-give-clause-visits : goal.returns-else-give-clause-visits
returns-else-give-clause-visits c =
    subst (λ (x : AssignedState). Visits c.args.clauses.now c.args.assigned.now x c.args.watching.now c.args.watching.now) (sym c.if-give.ensures.given.same)
    (visits_same c.args.clauses.now c.args.assigned.now c.args.watching.now c.requires.held c.requires.watching)
