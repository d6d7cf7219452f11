-- What is left of the lines of all goals.
use Rattle.std.proofs.Common.{drop}
use Rattle.tcl_report.specs.Report.{goals_text}
use Rattle.tcl_report.proofs.Growing.{Leaves}
use Rattle.tcl_report.proofs.report.print_goals.Given as goal

abbrev pub invariant-loop-k : goal.invariant-loop-k
invariant-loop-k g l = Leaves l.fn.printer (goals_text l.typed l.board l.goals) l.printer (goals_text l.typed l.board (drop l.k l.goals))
