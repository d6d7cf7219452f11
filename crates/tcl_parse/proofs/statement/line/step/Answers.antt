use Rattle.tcl_parse.proofs.StatementLines.{is_step}
use Rattle.tcl_parse.proofs.TreeAnswers.{found_is}
use Rattle.tcl_parse.proofs.statement.line.step.Goals as goal

pub returns-in-Some-2 : goal.returns-in-Some-2
returns-in-Some-2 c =
    let i = rw c.in-Some-2.is at c.in_ok-instr.ensures.exact in
    record { exact = found_is _ _ c.found.result c.found.ensures (is_step c.in-Some.ensures i) }
