use Rattle.tcl_parse.proofs.StatementLines.{is_end}
use Rattle.tcl_parse.proofs.statement.line.end.Goals as goal

pub returns-in_ok-new : goal.returns-in_ok-new
returns-in_ok-new c = record { exact = rw c.in_ok-new.ensures (is_end c.if-ends.ensures) }
