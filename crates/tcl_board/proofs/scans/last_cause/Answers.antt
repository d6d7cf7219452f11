use Rattle.std.proofs.Common.{sym, ◌∙◌}
use Rattle.tcl_board.proofs.Indexing.{cause_start, cause_none}
use Rattle.tcl_board.proofs.scans.last_cause.Goals as goal

pub loop-k-init : goal.loop-k-init
loop-k-init c = (cause_start _ _ _ _ c.requires, c.requires.order, c.requires.within)

pub returns : goal.returns
returns c = sym (c.loop-k.invariant.0 ∙ cause_none _ _ _ c.loop-k.k _ c.requires c.loop-k-test.false)
