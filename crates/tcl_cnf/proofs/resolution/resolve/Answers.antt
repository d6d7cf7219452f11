use Rattle.tcl_cnf.proofs.Joins.{no_join_from_second}
use Rattle.tcl_cnf.proofs.ResolutionLemmas.{resolved}
use Rattle.tcl_cnf.proofs.resolution.resolve.Goals as goal

pub returns-in_default : goal.returns-in_default
returns-in_default c = no_join_from_second c.args.marks.now c.args.lits.now c.requires c.in_default.ensures

pub returns : goal.returns
returns c =
    resolved c.args.marks.now c.args.lits.now c.remove.new.self c.add_others.new.marks c.in-Some.pivot c.negation.result
    c.known.ensures c.in-Some.ensures c.negation.ensures c.remove.ensures c.in_ok-add_others.ensures
