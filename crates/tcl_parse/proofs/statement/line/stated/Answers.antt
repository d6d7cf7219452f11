use Rattle.tcl_parse.proofs.StatementLines.{stated_is}
use Rattle.tcl_parse.proofs.statement.line.stated.Goals as goal

pub returns-in-Some : goal.returns-in-Some
returns-in-Some c =
    let p = rw c.in-Some.is at c.in_ok-pred.ensures.exact in
    record { exact = stated_is c.args.word c.in-Some.pred c.stated_with.result c.requires.no_input c.requires.no_end c.stated_with.ensures p }
