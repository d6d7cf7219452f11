use Rattle.tcl_text.specs.Statements as grammar
use Rattle.tcl_parse.proofs.StatementParts.{no_args, wrong_amount}
use Rattle.tcl_parse.proofs.statement.instruction.form.Goals as goal

pub returns-in_default-2 : goal.returns-in_default-2
returns-in_default-2 c =
    let p = rw (c.result_count.ensures, c.in-Some.is) at c.in_ok-outs.ensures.exact in
    let q = rw (c.operand_count.ensures, c.in_default-2.is) at c.in_ok-args.ensures.exact in
    record { exact = no_args p q }

pub returns-in_default-amount : goal.returns-in_default-amount
returns-in_default-amount c =
    let p = rw (c.result_count.ensures, c.in-Some.is) at c.in_ok-outs.ensures.exact in
    let q = rw (c.operand_count.ensures, c.in-Some-2.is) at c.in_ok-args.ensures.exact in
    let r = rw c.has_amount.ensures at c.in_default-amount.ensures.exact in
    record { exact = wrong_amount p q r }

pub returns : goal.returns
returns c =
    let p = rw (c.result_count.ensures, c.in-Some.is) at c.in_ok-outs.ensures.exact in
    let q = rw (c.operand_count.ensures, c.in-Some-2.is) at c.in_ok-args.ensures.exact in
    let r = rw c.has_amount.ensures at c.in-Some-amount.ensures.exact in
    record { exact = grammar.form p q r }
