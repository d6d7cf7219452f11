use Rattle.std.proofs.Common.{sym}
use Rattle.tcl_text.specs.Verdict as verdict
use Rattle.tcl_parse.proofs.StatementVerdict.{is_kept}
use Rattle.tcl_parse.proofs.statement.line.judge.Goals as goal

pub returns-then-nests_too_deep : goal.returns-then-nests_too_deep
returns-then-nests_too_deep c = verdict.too_deep (sym c.if-nests_too_deep.ensures)

pub returns-then-has_too_many_operators : goal.returns-then-has_too_many_operators
returns-then-has_too_many_operators c = verdict.too_many (sym c.if-nests_too_deep.ensures) (sym c.if-has_too_many_operators.ensures)

pub returns-in-None : goal.returns-in-None
returns-in-None c =
    let n = rw c.in-None.is at c.in_ok-statement.ensures.exact in
    verdict.no_line (sym c.if-nests_too_deep.ensures) (sym c.if-has_too_many_operators.ensures) n

pub returns-in-Some : goal.returns-in-Some
returns-in-Some c =
    let s = rw c.in-Some.is at c.in_ok-statement.ensures.exact in
    rw c.kept.ensures (is_kept (sym c.if-nests_too_deep.ensures) (sym c.if-has_too_many_operators.ensures) s)
