use Rattle.tcl_circuits.proofs.Within.{signs_within}
use Rattle.tcl_circuits.proofs.comparison.in_range.Goals as goal

pub chain-requires-clause-second : goal.chain-requires-clause-second
chain-requires-clause-second c =
    signs_within _ c.args.width c.saturating_sub.result c.last_of.result c.args.a.now c.in_ok-low.low c.in_ok-signs.signs c.requires.first c.in_ok-low.ensures c.last_of.ensures c.in_ok-signs.ensures
