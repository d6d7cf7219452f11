-- The term stands at the end of the part of its power.
use Rattle.tcl_reduce.proofs.PartLists.{term_added}
use Rattle.tcl_reduce.proofs.parts.add_term.Goals as goal

pub returns-clause-added : goal.returns-clause-added
returns-clause-added g c =
    term_added c.args.key c.exponent-power.result c.args.mono c.in_ok-rest.rest c.args.coefficient c.args.parts.now.items c.make_room.new.parts.items c.push_at.new.parts.items
    c.exponent-power.ensures c.in_ok-rest.ensures c.in_ok-make_room.ensures.same c.in_ok-push_at.ensures.here c.in_ok-push_at.ensures.elsewhere
