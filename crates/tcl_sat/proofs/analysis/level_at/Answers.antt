use Rattle.tcl_sat.proofs.Floors.{told_front}
use Rattle.tcl_sat.proofs.analysis.level_at.Goals as goal

pub returns : goal.returns
returns c =
    let t = c.args.trail.now in
    told_front t.clauses t.entries c.args.floor c.at.result c.level_of.result c.known.ensures.trail c.requires c.at.ensures c.level_of.ensures
