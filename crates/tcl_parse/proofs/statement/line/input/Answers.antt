use Rattle.tcl_parse.proofs.StatementLines.{is_input}
use Rattle.tcl_parse.proofs.TreeAnswers.{found_is}
use Rattle.tcl_parse.proofs.statement.line.input.Goals as goal

pub returns-then-ends : goal.returns-then-ends
returns-then-ends c = record {
  exact = found_is _ _ c.found.result c.found.ensures (is_input c.in-Some.ensures c.in-Some-name_at.ensures c.if-ends.ensures);
}
