-- At the end nothing is left.
use Rattle.std.proofs.Common.{arith}
use Rattle.tcl_report.proofs.Growing.{ended}
use Rattle.tcl_report.proofs.ReportLemmas.{goals_done}
use Rattle.tcl_report.proofs.report.print_goals.Goals as goal

pub returns : goal.returns
returns g c =
    ended (goals_done c.args.typed.now c.args.board.now c.args.goals.now c.loop-k.k (omega (arith, c.loop-k-test.false, c.len-k-end.ensures)))
    c.loop-k.invariant
