use Rattle.tcl_report.proofs.LineTexts.{line_shows}
use Rattle.tcl_report.proofs.laws.one_rendering.Goals as goal

pub returns : goal.returns
returns c = λ names l. line_shows names l
