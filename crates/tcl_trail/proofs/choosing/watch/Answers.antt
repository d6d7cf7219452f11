use Rattle.tcl_trail.proofs.TrailLemmas.{added_ok, added_err, watching_short}
use Rattle.std.proofs.Common.{refl}
use Rattle.tcl_trail.proofs.choosing.watch.Goals as goal

pub returns-in_ok-add_short-in-None-clause-ok : goal.returns-in_ok-add_short-in-None-clause-ok
returns-in_ok-add_short-in-None-clause-ok c =
    watching_short c.args._clauses.now c.args.assigned.now.entries c.args.watching.now c.add_short.new.self c.args.lits.now (record { first = c.from_number-none.result; second = c.from_number-none.result; from = 0 }) c.args.number
    c.requires.watching refl c.requires.next c.in_ok-add_short-in-None.ensures.ok

pub returns-in-Ok-clause-ok : goal.returns-in-Ok-clause-ok
returns-in-Ok-clause-ok c =
    added_ok c.args._clauses.now c.args.assigned.now.entries c.args.watching.now c.lower.new.self c.add_pair.new.self c.args.lits.now c.in-Some.chosen.pair c.in-Some.chosen.limit c.args.number c.requires.watching c.in-Some.ensures c.requires.next
    c.lower.ensures.same c.lower.ensures.lower c.lower.ensures.limit c.in-Ok.ensures.more c.in-Ok.ensures.first c.in-Ok.ensures.second c.in-Ok.ensures.ok

pub returns-in-Err-clause-err : goal.returns-in-Err-clause-err
returns-in-Err-clause-err c =
    added_err c.args._clauses.now c.args.assigned.now.entries c.args.watching.now c.lower.new.self c.add_pair.new.self c.requires.watching c.lower.ensures.same c.lower.ensures.lower c.in-Err.ensures.err
