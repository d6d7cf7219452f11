-- Each line of the text is true.
use Rattle.tcl_report.proofs.ReportLines.{is_report}
use Rattle.tcl_report.proofs.report.report_text.Goals as goal

pub returns-clause-report : goal.returns-clause-report
returns-clause-report g c =
    is_report g.E.Evidence.causes c.args.typed.now c.args.board.now c.in_ok-text.text.items c.known.ensures c.apart.ensures c.finished_has_causes.ensures.answers c.requires.program c.in_ok-text.ensures
