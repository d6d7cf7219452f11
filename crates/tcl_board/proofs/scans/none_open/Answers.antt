use Rattle.std.proofs.Common.{sym, ap, ◌∙◌}
use Rattle.std.specs.Option.{is_none}
use Rattle.tcl_board.proofs.Firsts.{first_found}
use Rattle.tcl_board.proofs.scans.none_open.Goals as goal

pub returns-then-is_open : goal.returns-then-is_open
returns-then-is_open c = sym (ap is_none (first_found _ _ c.loop-k.k c.loop-k.invariant (sym c.is_open.ensures ∙ c.if-is_open.true) c.loop-k-test.true))
